pub mod Items
mod Texts
