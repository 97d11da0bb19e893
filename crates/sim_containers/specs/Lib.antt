pub mod Words
pub mod Numbers
pub mod Times
pub mod Entries
pub mod RowArray
