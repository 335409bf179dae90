pub mod Cached
pub mod Seen
