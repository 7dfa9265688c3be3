pub mod Walks
pub mod Lists
pub mod Said
