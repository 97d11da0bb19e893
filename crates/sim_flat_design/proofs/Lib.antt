pub mod FirstNamed
pub mod Joined
pub mod Fitting
pub mod Crossing
