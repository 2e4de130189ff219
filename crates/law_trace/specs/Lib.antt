pub mod Feeds
pub mod Digits
pub mod Printed
pub mod Rendered
pub mod Whole
