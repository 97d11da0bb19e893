pub mod Asks
pub mod Limits
pub mod Options
