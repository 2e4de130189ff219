pub mod Keeps
pub mod SevenByLeft
pub mod RunOfOne
