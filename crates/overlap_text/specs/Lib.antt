pub mod Whole
pub mod Laws
pub mod Blocks
pub mod Left
