pub mod Ticks
pub mod Machine
pub mod Cases
