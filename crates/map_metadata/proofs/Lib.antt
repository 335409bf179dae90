mod Added
mod Known
mod Shown
mod Written
pub mod Unique
