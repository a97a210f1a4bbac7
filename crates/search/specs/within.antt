pub mod Steps
pub mod RunParts
