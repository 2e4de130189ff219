pub mod Rows
pub mod Starred
pub mod Traps
pub mod Waiting
pub mod Refused
pub mod Joining
pub mod Runs
pub mod Takes
