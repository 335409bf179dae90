pub mod Conditions
pub mod Fields
pub mod Frame
pub mod Inputs
pub mod Lines
pub mod Requests
pub mod Search
