pub mod EachRound
pub mod Reporting
pub mod ForCallers
