pub mod Bytes
pub mod Decimals
pub mod FileName
pub mod Ids
pub mod LockId
pub mod Moments
pub mod Reasons
