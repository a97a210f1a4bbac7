pub mod Fault
pub mod Progress
