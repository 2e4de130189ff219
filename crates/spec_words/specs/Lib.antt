pub mod Words
pub mod Blocks
pub mod Parts
pub mod Found
