pub mod Program
pub mod LegLog
pub mod Followed
pub mod FoundFile
pub mod SameFile
