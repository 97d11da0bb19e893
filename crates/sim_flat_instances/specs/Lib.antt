pub mod Components
pub mod Instances
pub mod Interfaces
pub mod Laws
pub mod Libraries
pub mod Places
pub mod PortMaps
