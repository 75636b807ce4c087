pub mod Begun
pub mod Begins
pub mod Rows
pub mod Lines
pub mod Logs
