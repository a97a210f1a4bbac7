pub mod CostParts
pub mod KeptDeviations
