pub mod OpValue
pub mod PlanOf
pub mod code
