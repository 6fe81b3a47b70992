-- What only proofs and private functions need: no public clause cites any of it.
pub mod Costs
pub mod Groups
pub mod Placing
pub mod State
pub mod Passes
pub mod Search
pub mod Path
pub mod Pairs
pub mod Sequence
pub mod Planner
pub mod Taken
