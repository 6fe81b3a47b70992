pub mod Names
pub mod PlainMessages
pub mod Bounds
pub mod Items
pub mod Lines
pub mod PlainTexts
pub mod Writing
pub mod WrittenTokens
