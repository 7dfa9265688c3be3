pub mod Lookup
pub mod Said
