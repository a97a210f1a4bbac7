-- Loops over sets and lists.
pub mod Sets
pub mod Searches
pub mod Left
