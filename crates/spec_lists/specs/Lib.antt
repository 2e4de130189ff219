pub mod Counting
pub mod Sums
pub mod Tests
pub mod Marks
pub mod Distinct
pub mod Maps
pub mod Ranges
