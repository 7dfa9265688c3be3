pub mod Commits
pub mod Said
