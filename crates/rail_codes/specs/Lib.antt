pub mod ClassCode
pub mod CodeFault
pub mod Company
pub mod Moment
pub mod OrderId
pub mod Place
pub mod WagonNumber
pub mod inner
