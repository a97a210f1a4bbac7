pub mod Histories
pub mod Rooms
pub mod Steps
pub mod Ends
pub mod Walks
