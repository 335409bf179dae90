mod Adding
mod AheadBytes
mod Archive
mod CounterSteps
mod Counting
mod Different
mod Ends
mod Entries
mod Growing
mod Words
mod Headers
pub mod Joining
mod Keeping
pub mod Laws
mod Leaves
mod LimitNumbers
mod Listed
mod Pieces
mod FirstTiles
mod Indexing
mod Storing
mod Tiles
pub mod Vector
mod Zooms
