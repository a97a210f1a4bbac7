pub mod FileClash
pub mod Files
pub mod Beginnings
pub mod Effort
pub mod CommandLine
pub mod within
