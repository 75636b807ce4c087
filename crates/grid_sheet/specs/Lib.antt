pub mod Edits
pub mod Reading
pub mod Rows
pub mod Text
pub mod Undoing
