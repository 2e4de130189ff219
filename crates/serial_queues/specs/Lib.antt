pub mod Rings
pub mod Pushed
pub mod Popped
