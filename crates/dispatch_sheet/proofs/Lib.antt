pub mod PlanLines
pub mod PlanPairs
pub mod Lists
pub mod Certificates
pub mod CommitTokens
pub mod Moments
pub mod InRange
