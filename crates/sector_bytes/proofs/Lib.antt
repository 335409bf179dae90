pub mod Counts
pub mod Laws
mod Pieces
