pub mod StatementRules
pub mod Translations
pub mod WaveformTimes
