pub mod Ancestors
pub mod Named
pub mod Stacked
pub mod Shallow
