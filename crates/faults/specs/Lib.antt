pub mod Numbers
pub mod Conversions
pub mod ReadingFaults
pub mod RefusalNumbers
pub mod Manual
pub mod inner
