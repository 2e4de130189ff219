pub mod Kinds
pub mod Pass
pub mod Needs
pub mod Listing
pub mod Cases
