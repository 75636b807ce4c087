pub mod Sizes
pub mod Legal
pub mod Audits
pub mod Making
