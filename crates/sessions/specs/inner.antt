-- What only the proofs and the private functions of this crate need.
pub mod Counted
pub mod Others
pub mod RefusedWagons
pub mod Crossings
pub mod Fed
pub mod FeedLines
pub mod KeptNotes
