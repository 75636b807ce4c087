pub mod Pieces
pub mod Told
pub mod Files
pub mod Distinct
pub mod Places
