pub mod Files
pub mod CommandLine
pub mod Refusals
pub mod WrongNumbers
