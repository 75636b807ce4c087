pub mod CopyNames
