pub mod Message
pub mod Fips
