-- What only private functions and proofs of table_lines need.
pub mod FoundLists
pub mod Tokens
pub mod Members
