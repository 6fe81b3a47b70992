-- What only the proofs and the private functions of this crate need.
pub mod Remembered
