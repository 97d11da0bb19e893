pub mod Bodies
pub mod Designs
pub mod Processes
pub mod Waveforms
pub mod Limits
