pub mod Run
pub mod Cases
pub mod Refused
