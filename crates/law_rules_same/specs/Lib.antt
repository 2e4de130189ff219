pub mod Passed
pub mod Same
pub mod Held
