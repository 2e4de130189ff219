pub mod Table
pub mod Starred
