pub mod Counts
pub mod Depth
pub mod Flat
pub mod Hierarchy
pub mod Expanding
pub mod Limits
