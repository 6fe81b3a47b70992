-- What only proofs and private functions need.
pub mod Searched
pub mod Spared
