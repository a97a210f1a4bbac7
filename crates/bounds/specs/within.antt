pub mod Entries
pub mod Lengths
pub mod Prices
pub mod Tables
