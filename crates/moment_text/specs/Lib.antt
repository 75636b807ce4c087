pub mod Dates
pub mod Text
pub mod Reading
