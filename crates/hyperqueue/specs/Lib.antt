pub mod Packed
pub mod Steps
pub mod Replays
pub mod Simulations
