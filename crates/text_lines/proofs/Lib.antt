pub mod ForCallers
pub mod Digits
pub mod Splitting
pub mod Parts
pub mod WrittenWords
