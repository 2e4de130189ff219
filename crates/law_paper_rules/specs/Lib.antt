pub mod Order
pub mod Slots
pub mod Words
pub mod Counterexamples
