pub mod Refusals
pub mod Said
pub mod Width
