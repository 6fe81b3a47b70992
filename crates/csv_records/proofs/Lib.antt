pub mod Apart
pub mod Asking
pub mod Collecting
pub mod FieldLemmas
pub mod Remaining
pub mod Saying
pub mod StopLemmas
