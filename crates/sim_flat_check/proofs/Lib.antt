pub mod KnownNames
pub mod UnitTurns
pub mod TypeResults
pub mod Sequences
pub mod SoundWaveforms
pub mod Turns
pub mod Typed
