pub mod Cases
pub mod Foreign
pub mod Counted
