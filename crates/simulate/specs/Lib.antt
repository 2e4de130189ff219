pub mod Listed
pub mod Parts
pub mod Choices
pub mod Effects
pub mod Small
pub mod Turns
pub mod Leaves
pub mod Whole
