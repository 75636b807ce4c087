pub mod Messages
pub mod Hearing
pub mod Crossing
pub mod Sources
pub mod Restarts
