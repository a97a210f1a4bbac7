-- What a change adds to the part of a deviation, it adds to the whole.
pub mod PartSums
pub mod PartTerms
pub mod PartsBalance
