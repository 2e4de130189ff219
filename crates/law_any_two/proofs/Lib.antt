pub mod Stands
pub mod Stable
pub mod Determined
pub mod Sums
