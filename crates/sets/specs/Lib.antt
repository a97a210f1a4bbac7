pub mod Limits
pub mod Sums
pub mod Sets
pub mod Pairs
pub mod within
