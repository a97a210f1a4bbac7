pub mod Alterable
pub mod Index
pub mod Laws
pub mod within
