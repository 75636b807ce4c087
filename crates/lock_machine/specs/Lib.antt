pub mod Asks
pub mod Changes
