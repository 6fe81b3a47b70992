pub mod WagonRows
pub mod OrderRows
