pub mod Answering
pub mod EventTotals
pub mod NestedValues
