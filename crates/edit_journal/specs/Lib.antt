pub mod Appends
pub mod Kept
pub mod Lists
pub mod Records
pub mod Recovers
pub mod Releases
pub mod Ring
