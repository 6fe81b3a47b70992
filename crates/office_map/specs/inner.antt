-- What only proofs and private functions need.
pub mod Drawn
pub mod Noted
