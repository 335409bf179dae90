mod Bounds
mod Drafts
pub mod Laws
mod MapTiles
mod Pieces
mod Steps
mod Written
