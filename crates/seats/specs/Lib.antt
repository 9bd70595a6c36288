pub mod Seats
pub mod Offices
