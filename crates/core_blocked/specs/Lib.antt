pub mod Siblings
pub mod Noted
pub mod Told
