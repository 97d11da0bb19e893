pub mod Readers
pub mod Expressions
pub mod Waveforms
pub mod Declarations
pub mod Statements
pub mod Concurrents
pub mod Units
pub mod Faults
