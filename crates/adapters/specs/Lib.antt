pub mod Closing
pub mod Limits
pub mod LogNames
pub mod Stopping
pub mod Telling
