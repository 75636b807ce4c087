pub mod Decimals
mod Differences
pub mod Disjunctions
pub mod IdLemmas
pub mod Shorts
pub mod Utf8Bytes
