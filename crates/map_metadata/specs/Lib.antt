pub mod DraftInside
pub mod Fields
pub mod Metadata
pub mod Summaries
