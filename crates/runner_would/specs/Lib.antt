pub mod Held
pub mod Decides
pub mod Rightly
pub mod PopsNothing
