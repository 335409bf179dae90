-- A publication: what its writes and its installation leave on a disk, while edits go on.
pub mod AfterWrites
pub mod AreaContents
pub mod Drafts
pub mod DuringEdits
pub mod Installed
pub mod Released
pub mod StepLimit
pub mod StepWrites
pub mod Steps
pub mod WholePublication
