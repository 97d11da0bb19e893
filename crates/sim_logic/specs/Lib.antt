pub mod Logic
pub mod Tables
pub mod Edge
pub mod Resolution
pub mod Sources
pub mod Time
