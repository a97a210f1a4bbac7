pub mod walks
mod rows
mod counted
mod unaltered
mod balances
mod limits
pub mod ForCallers
