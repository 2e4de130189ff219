pub mod Named
pub mod Example
