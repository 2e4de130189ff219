pub mod Line
pub mod Store
pub mod Lines
pub mod Outline
pub mod Moves
pub mod Places
