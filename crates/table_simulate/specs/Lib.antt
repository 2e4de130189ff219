pub mod Quick
pub mod Table
pub mod Cases
pub mod Listed
