pub mod Queues
pub mod Records
