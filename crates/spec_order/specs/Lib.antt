pub mod Steps
pub mod Waits
pub mod Finding
pub mod Ordered
pub mod Cases
