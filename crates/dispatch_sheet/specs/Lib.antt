pub mod PlanText
pub mod Sheet
pub mod Certificate
pub mod inner
