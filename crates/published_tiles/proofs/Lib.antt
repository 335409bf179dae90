pub mod PartLaws
pub mod PublishedLaws
