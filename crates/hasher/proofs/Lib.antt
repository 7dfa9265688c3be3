pub mod Blocks
pub mod Fed
pub mod Arrays
pub mod Laws
pub mod Results
