pub mod Walks
pub mod Lists
pub mod Theorems
pub mod Said
