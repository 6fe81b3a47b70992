-- What only private functions and proofs of rail_codes need.
pub mod CheckDigit
pub mod ShortText
pub mod WagonTexts
