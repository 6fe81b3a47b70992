pub mod RecordLemmas
pub mod ValueLemmas
pub mod ReadingLemmas
pub mod PlacesOfLemmas
