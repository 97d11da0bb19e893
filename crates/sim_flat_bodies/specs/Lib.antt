pub mod Expressions
pub mod Statements
pub mod Timed
pub mod Within
