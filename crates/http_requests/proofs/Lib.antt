mod ConditionForms
pub mod FieldLemmas
pub mod HeadLemmas
mod InputLemmas
pub mod Laws
mod LimitNumbers
pub mod LineLemmas
pub mod ReadingLemmas
