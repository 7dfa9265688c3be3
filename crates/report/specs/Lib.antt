pub mod Output
pub mod Puts
