pub mod CostText
