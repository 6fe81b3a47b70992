-- What only the proofs and the private functions of this crate need.
pub mod Counted
pub mod KnownValues
pub mod OutOfMemory
pub mod Reviewing
pub mod NotedReads
