pub mod Alike
pub mod Executed
