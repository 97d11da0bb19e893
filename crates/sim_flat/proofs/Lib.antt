pub mod AsciiFolding
pub mod NamesAtPlaces
pub mod NestedNets
pub mod SourceTrees
pub mod TopBlocks
pub mod WholeTrees
