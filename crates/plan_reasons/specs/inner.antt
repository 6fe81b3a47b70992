-- What only proofs and private functions need.
pub mod Passed
pub mod Added
pub mod AddedPairs
pub mod Tallied
pub mod Twins
