pub mod Graph
pub mod Least
pub mod Recursion
pub mod Search
pub mod Sources
