pub mod Counts
pub mod Directory
pub mod Faulty
pub mod Lookup
pub mod Reading
