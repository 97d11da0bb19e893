pub mod Alike
pub mod MapLoops
pub mod Maps
pub mod MissingPorts
pub mod PlaceLoops
pub mod Reading
pub mod ReferencePlaces
pub mod SoundInstances
