pub mod ejection
pub mod move_laws
pub mod Sets
pub mod ForCallers
