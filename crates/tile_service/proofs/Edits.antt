-- What an edit is tested for, what its record leaves on a disk, and the service after it.
pub mod BatchLimits
pub mod EditStored
pub mod JournalAppend
pub mod Limits
pub mod ListedEdits
pub mod ServiceAfter
pub mod ShownEdits
