pub mod Questions
pub mod Lookups
pub mod Theorems
pub mod Said
