pub mod Traversal
pub mod Scans
pub mod Said
