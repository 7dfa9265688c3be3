pub mod Files
pub mod Rules
pub mod Scans
pub mod Said
