pub mod ArchiveLaws
pub mod MetadataLaws
