pub mod SameValues
pub mod TableLaws
pub mod SourceLaws
