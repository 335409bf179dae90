-- Reading step by step.
pub mod Reading
