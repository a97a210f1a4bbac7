mod Members
mod Searches
mod EachAlone
mod Unions
mod Collected
pub mod ForCallers
