pub mod Answered
pub mod Statement
