pub mod Elaboration
pub mod Hierarchies
pub mod Laws
pub mod Refusals
pub mod Tops
