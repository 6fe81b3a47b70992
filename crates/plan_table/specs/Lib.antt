pub mod ListOf
pub mod Reasons
pub mod Cells
pub mod TableText
pub mod CsvText
pub mod inner
