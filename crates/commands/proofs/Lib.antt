pub mod Endings
pub mod Improving
pub mod Reporting
pub mod Reports
