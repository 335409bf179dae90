-- Lemmas of reading step by step.
pub mod Steps
