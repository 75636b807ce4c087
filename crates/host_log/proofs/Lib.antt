pub mod Texts
pub mod Growing
pub mod Noting
pub mod Standing
pub mod Telling
pub mod Keeping
