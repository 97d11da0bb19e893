pub mod Rising
pub mod Run
pub mod Pending
