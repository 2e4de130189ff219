pub mod Machine
pub mod Run
pub mod Cases
pub mod Stack
