pub mod Contents
pub mod Stack
pub mod Views
pub mod Rules
pub mod Test
pub mod Held
pub mod Passed
