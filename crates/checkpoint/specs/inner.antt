-- What only proofs and private functions need.
pub mod Steps
pub mod Runs
pub mod IsParts
pub mod Lines
pub mod Readable
pub mod Written
