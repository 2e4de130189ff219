pub mod Serial
pub mod Answers
pub mod Working
pub mod Outcome
pub mod Cases
