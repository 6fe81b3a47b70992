pub mod WagonNumbers
pub mod Moments
pub mod Words
pub mod ShortTexts
