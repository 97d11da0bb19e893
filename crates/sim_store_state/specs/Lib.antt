pub mod Times
pub mod FlatState
pub mod Sensitive
pub mod Log
pub mod Counting
pub mod Updating
pub mod InTurn
