pub mod Boxes
pub mod Number
pub mod Paths
pub mod Targets
pub mod Methods
pub mod Parts
