pub mod Lines
pub mod inner
pub mod Outcome
pub mod Replies
pub mod Runs
pub mod RunFault
