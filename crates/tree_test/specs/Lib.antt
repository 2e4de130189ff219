pub mod Records
pub mod Idle
pub mod Counted
pub mod Top
pub mod Links
pub mod Walk
pub mod Led
