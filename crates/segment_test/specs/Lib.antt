pub mod Records
pub mod Stack
pub mod Count
pub mod Marked
