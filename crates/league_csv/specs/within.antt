pub mod Views
pub mod Table
pub mod Reading
