pub mod Expected
pub mod Replay
pub mod Same
pub mod AsLines
pub mod Cases
