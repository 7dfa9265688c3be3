pub mod Mapped
pub mod Tabling
pub mod Meeting
pub mod Heading
pub mod Trying
pub mod Filing
pub mod Saying
pub mod Results
