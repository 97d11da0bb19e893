pub mod Turns
mod Names
mod Digits
pub mod Writings
pub mod ExpressionRules
pub mod ExpressionLevels
pub mod ExpressionStarts
pub mod SequentialRules
