pub mod Places
pub mod Seats
pub mod Steps
pub mod Turns
