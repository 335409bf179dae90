pub mod Data
pub mod Lengths
pub mod Limits
pub mod Seen
pub mod Spelled
pub mod Types
