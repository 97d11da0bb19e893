pub mod Declaring
pub mod FaultLoops
pub mod LabelRules
pub mod NameLists
pub mod Faults
pub mod Regions
