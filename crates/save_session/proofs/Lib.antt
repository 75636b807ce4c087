pub mod Naming
pub mod IdForms
pub mod Ignoring
pub mod Stepping
