pub mod Branches
pub mod Ready
