pub mod ScheduleText
pub mod LastSheet
pub mod Given
pub mod Judged
pub mod Faults
pub mod Faultless
pub mod within
