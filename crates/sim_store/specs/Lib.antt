pub mod WaveStore
pub mod Run
pub mod Handing
pub mod Retained
