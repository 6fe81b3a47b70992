pub mod ValueLemmas
pub mod ArgumentLemmas
pub mod LineLemmas
pub mod ExplainLemmas
