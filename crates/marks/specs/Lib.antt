pub mod Marks
pub mod Said
