pub mod Message
pub mod Fips
pub mod Feed
pub mod State
