pub mod Calls
pub mod Files
pub mod Notes
pub mod Runs
pub mod Views
