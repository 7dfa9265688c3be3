pub mod Numbers
pub mod Searches
pub mod Rows
pub mod Parts
pub mod Fills
pub mod Adds
pub mod Determined
pub mod Results
