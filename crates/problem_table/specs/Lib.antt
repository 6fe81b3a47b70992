pub mod Allowed
pub mod Lasting
pub mod inner
