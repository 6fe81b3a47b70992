pub mod Words
pub mod Lines
pub mod Details
pub mod ReplyTexts
