pub mod KeptKeys
pub mod Remembering
pub mod LastLines
