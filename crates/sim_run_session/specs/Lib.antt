pub mod Run
pub mod Session
pub mod Simulation
pub mod Streaming
