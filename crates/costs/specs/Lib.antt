pub mod Costs
pub mod Evaluators
pub mod within
