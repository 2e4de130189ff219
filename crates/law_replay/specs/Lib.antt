pub mod Statement
pub mod Opened
pub mod Answered
pub mod Fronts
pub mod Lines
pub mod Laws
pub mod Left
