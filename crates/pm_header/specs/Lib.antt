pub mod Compression
pub mod Layout
