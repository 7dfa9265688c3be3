pub mod Walks
pub mod Said
