pub mod Commands
pub mod Decoding
pub mod Encodable
pub mod Faulty
pub mod Identifiers
pub mod Packed
pub mod Shapes
pub mod Ways
