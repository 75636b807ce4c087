pub mod Schedules
pub mod Generator
pub mod Grammar
pub mod RowKinds
pub mod Readings
pub mod Pieces
pub mod Inputs
