pub mod Archive
pub mod Disk
pub mod Edits
pub mod Publications
pub mod Runs
pub mod Tiles
