mod Beginnings
pub mod Begun
mod Inside
pub mod Late
pub mod OverReads
mod PortKept
pub mod PortNumbers
mod Prepared
mod CopyHeld
mod StillShown
