pub mod Finishing
pub mod OkGives
pub mod Programs
pub mod Simulations
pub mod LinesMeanwhile
pub mod LinesBeside
