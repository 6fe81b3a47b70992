pub mod Fields
pub mod Files
pub mod Reading
pub mod Requests
pub mod Refusing
pub mod Stopping
