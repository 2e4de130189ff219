pub mod Order
pub mod Fit
