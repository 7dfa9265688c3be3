pub mod Chain
pub mod Passes
pub mod Spots
pub mod Theorems
pub mod Said
