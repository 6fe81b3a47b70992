-- What only the proofs and the private functions of this crate need.
pub mod Ascending
pub mod CommitTests
pub mod Entered
pub mod IdKey
pub mod Kept
pub mod Ledger
pub mod MessageIds
pub mod Noted
pub mod NoteEntry
pub mod KeptEvent
