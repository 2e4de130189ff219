pub mod Rights
pub mod Queues
pub mod Users
pub mod Tour
