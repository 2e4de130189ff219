pub mod Same
pub mod At
pub mod Judged
pub mod Ends
pub mod Whole
