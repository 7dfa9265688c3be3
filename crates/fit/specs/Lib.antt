pub mod Fits
pub mod Facts
pub mod Made
