pub mod Views
pub mod Lawful
pub mod Rule
pub mod Seats
