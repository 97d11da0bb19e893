pub mod DesignFile
pub mod Grammar
pub mod Input
pub mod Limits
pub mod Name
pub mod Starts
pub mod Times
pub mod Writing
