pub mod Copies
pub mod Divided
pub mod Entries
pub mod Gathering
pub mod Heads
pub mod Histories
pub mod LastDigits
pub mod ShortNames
