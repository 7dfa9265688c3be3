pub mod Index
pub mod Said
