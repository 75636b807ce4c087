pub mod Ending
pub mod Keeping
pub mod Prefixes
pub mod Seating
pub mod Sharing
pub mod Sums
pub mod Turning
