pub mod LastSheet
pub mod Faults
