pub mod EmptyList
pub mod Gaps
pub mod Reading
pub mod Indexed
pub mod Stored
