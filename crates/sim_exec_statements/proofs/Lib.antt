pub mod Branches
pub mod Elements
pub mod Fits
pub mod Places
pub mod ValueRules
