-- Runs of calls: their events and answers, and what a disk holds after them.
pub mod Callers
pub mod DeviceFaults
pub mod DiskAfter
pub mod EventAnswers
pub mod Headlines
pub mod KeptEdits
pub mod OneEvent
pub mod Progress
pub mod States
pub mod Wholes
