pub mod Below
mod Allowed
mod Boxes
mod Chosen
pub mod DigestLemmas
mod Ends
mod Entries
mod Finished
mod Gathers
mod Kept
pub mod LimitNumbers
mod Listed
mod Looked
mod Names
mod Near
mod Shown
mod Sizes
mod Steps
mod Writable
pub mod Reading
mod TilesRead
mod Totals
mod Walk
mod Zooms
pub mod Laws
pub mod Maps
mod Moments
pub mod Puts
pub mod RecordTexts
pub mod Snapshots
pub mod Texts
pub mod Unique
