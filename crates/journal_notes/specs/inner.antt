-- What only the proofs and the private functions of this crate need.
pub mod Front
pub mod Accepted
pub mod Said
pub mod Advances
pub mod Passed
