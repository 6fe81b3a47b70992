pub mod Classes
pub mod MaxLoad
pub mod Order
pub mod OrderLimits
pub mod Pairs
pub mod inner
