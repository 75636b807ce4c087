pub mod ListenerLemmas
pub mod LogLemmas
pub mod Sorted
