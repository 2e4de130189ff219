pub mod Chains
pub mod Nexts
pub mod Parted
pub mod Tested
pub mod FromTest
pub mod FromRules
pub mod Segments
