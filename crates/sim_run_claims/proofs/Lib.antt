pub mod Sums
pub mod StaysLawful
pub mod TableSteps
