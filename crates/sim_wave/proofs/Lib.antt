pub mod Rising
pub mod Comparing
pub mod Storing
pub mod Replacing
