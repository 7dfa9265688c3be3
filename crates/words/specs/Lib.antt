pub mod Big
pub mod First
pub mod Part
pub mod Sums
