pub mod Ascending
pub mod DirectoryLaws
pub mod EntryLaws
pub mod Laws
pub mod NumberLaws
pub mod Sizes
pub mod Steps
pub mod Written
