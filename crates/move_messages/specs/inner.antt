-- What only private functions and proofs of move_messages need.
pub mod PaddedClasses
