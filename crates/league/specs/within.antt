pub use Rattle.sets.specs.within.Sets
pub mod Rows
pub mod League
