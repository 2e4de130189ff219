pub mod Loops
pub mod Rows
pub mod Fields
pub mod Inside
