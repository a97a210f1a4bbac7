pub mod Doors
pub mod Reports
pub mod Heard
pub mod Outcomes
pub mod within
