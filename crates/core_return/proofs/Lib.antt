pub mod Deciding
pub mod Views
