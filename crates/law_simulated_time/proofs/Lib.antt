pub mod Bounds
pub mod Guarantee
