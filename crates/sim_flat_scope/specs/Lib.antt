pub mod DeclaredNames
pub mod Regions
pub mod Ports
pub mod DeclarationFaults
pub mod Faults
pub mod Scopes
