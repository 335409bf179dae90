-- What a disk holds: as it is formatted, opened, synced and upgraded.
pub mod Examples
pub mod Formatted
pub mod OneState
pub mod Opened
pub mod Replayed
pub mod Roots
pub mod SectorBytes
pub mod Synced
pub mod Upgraded
