pub mod History
pub mod Waiting
pub mod Contents
pub mod Simulation
