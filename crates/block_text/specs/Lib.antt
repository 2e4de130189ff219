pub mod Given
pub mod Lines
pub mod Blocks
pub mod Values
