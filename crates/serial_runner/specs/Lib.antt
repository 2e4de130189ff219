pub mod Onward
pub mod Turns
pub mod Parts
pub mod Child
pub mod Body
pub mod Whole
pub mod Handed
