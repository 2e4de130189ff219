pub mod Memory
pub mod Half
