pub mod LeastCosts
pub mod FurtherCosts
pub mod OrderCosts
pub mod inner
