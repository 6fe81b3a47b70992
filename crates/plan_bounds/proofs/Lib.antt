pub mod Sums
pub mod Identity
pub mod OtherPlans
pub mod NewPairs
pub mod Least
pub mod OtherTables
