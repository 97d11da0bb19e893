pub mod Names
pub mod Single
pub mod Values
