pub mod Writes
pub mod Replies
pub mod Tests
