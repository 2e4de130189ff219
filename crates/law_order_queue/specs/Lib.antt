pub mod Points
pub mod Balance
pub mod Pending
pub mod Found
pub mod Steps
pub mod Laws
pub mod Finds
