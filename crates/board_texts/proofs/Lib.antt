pub mod ForCallers
pub mod ReadNumbers
pub mod HistoryLines
pub mod WrittenLines
pub mod PlayedAgain
pub mod Answering
pub mod Breaches
