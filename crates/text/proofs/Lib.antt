pub mod Decimal
pub mod Places
pub mod Filling
pub mod Results
