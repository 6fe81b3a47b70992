-- What only proofs and private functions need.
pub mod PairLines
pub mod Parts
pub mod Pushed
pub mod Readable
