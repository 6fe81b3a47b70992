pub mod Feeds
pub mod Reading
pub mod Writing
pub mod Answering
pub mod Running
