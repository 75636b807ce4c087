pub mod Owning
pub mod Hearing
pub mod Joining
pub mod Living
pub mod Sourcing
pub mod Saying
pub mod Reopening
pub mod Unsaid
