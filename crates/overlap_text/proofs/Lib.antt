pub mod Given
pub mod Laws
