-- What only private functions and proofs of line_fields need.
pub mod PlainMessage
pub mod Loops
pub mod PlainTexts
