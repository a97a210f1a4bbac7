pub mod Lists
pub mod NoFloats
