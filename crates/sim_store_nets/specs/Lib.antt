pub mod Tallies
pub mod Nets
pub mod Lists
