pub mod Command
pub mod PlayText
pub mod LeastHard
pub mod SearchText
pub mod ProgressText
