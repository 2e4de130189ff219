pub mod Lines
pub mod Few
pub mod Cases
