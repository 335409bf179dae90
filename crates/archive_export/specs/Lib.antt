pub mod Copies
pub mod Finds
