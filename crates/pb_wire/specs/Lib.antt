pub mod Fault
pub mod Faulty
pub mod Items
pub mod Lengths
pub mod Message
pub mod Varint
pub mod Zigzag
