pub mod Edits
pub mod Kept
pub mod SeenFeatures
pub mod Unreached
