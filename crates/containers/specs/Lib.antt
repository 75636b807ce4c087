pub mod TokenText
pub mod Listed
pub mod Answers
pub mod Written
pub mod Names
