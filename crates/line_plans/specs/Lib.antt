pub mod Plans
pub mod PlanLines
pub mod Laws
pub mod inner
