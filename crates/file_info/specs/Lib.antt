pub mod Info
pub mod Json
pub mod Relative
pub mod Saved
