pub mod Blocks
pub mod Links
pub mod Plans
pub mod FirstValues
pub mod Below
pub mod Reads
pub mod BlockProcesses
