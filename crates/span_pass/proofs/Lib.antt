pub mod Held
pub mod Going
pub mod Arms
pub mod Rounds
