pub mod Crossing
pub mod Numbered
