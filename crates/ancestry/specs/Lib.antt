pub mod Graph
pub mod Counts
