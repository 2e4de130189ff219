pub mod Values
pub mod Stack
pub mod Free
pub mod Links
pub mod Copying
pub mod Blocks
pub mod Rings
pub mod Runs
