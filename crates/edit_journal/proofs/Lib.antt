mod Bodies
mod Exits
mod Frames
mod Fronts
mod Heads
mod Joined
pub mod Kept
mod LimitNumbers
pub mod Laws
pub mod Pieces
mod Places
mod Reading
pub mod ReadAgain
pub mod Recovers
pub mod Releases
