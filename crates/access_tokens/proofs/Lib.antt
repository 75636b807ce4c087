pub mod Ascii
mod Blocks
pub mod Bytes
mod Heads
pub mod MarkLemmas
pub mod OriginLemmas
pub mod Parts
pub mod Readings
mod Remembered
pub mod Verdicts
mod WordLemmas
