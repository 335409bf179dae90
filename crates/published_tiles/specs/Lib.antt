pub mod Opened
pub mod Published
pub mod Reading
