-- What only proofs and private functions need.
pub mod RowWalk
pub mod Naming
