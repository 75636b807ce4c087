pub mod Readings
mod Merges
pub mod Looks
mod Writing
pub mod Texts
mod AnswerLemmas
