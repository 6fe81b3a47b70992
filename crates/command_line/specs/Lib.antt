pub mod Values
pub mod Options
pub mod Explained
pub mod Arguments
pub mod Program
pub mod Words
pub mod inner
