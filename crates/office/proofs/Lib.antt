pub mod Histories
pub mod Plans
mod Adding
mod ReadNotes
mod Reviewed
mod TakenLines
