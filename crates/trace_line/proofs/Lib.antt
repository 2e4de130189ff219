pub mod Texts
pub mod Digits
pub mod Words
pub mod Lines
