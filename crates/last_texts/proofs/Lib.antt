pub mod ZoneBytes
pub mod MoverLemmas
pub mod FillLemmas
