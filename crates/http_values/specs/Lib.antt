pub mod Codes
pub mod Phrases
pub mod Ranges
