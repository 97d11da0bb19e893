pub mod Head
pub mod Listing
pub mod Moments
pub mod ShortNames
pub mod Writing
