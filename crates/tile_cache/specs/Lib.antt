pub mod Cells
pub mod Entries
pub mod Kept
pub mod KeptInside
pub mod Touched
