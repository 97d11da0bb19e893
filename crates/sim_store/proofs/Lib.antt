pub mod Stores
pub mod Logs
pub mod Places
pub mod Handed
pub mod Returning
pub mod Retaining
pub mod Crossing
pub mod Orders
