pub mod PricedPlan
pub mod Slack
pub mod LeastSlack
pub mod Changes
pub mod Bounds
pub mod Laws
