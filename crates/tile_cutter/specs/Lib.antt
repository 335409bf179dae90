pub mod Covered
pub mod Cut
pub mod Passes
pub mod Put
pub mod Range
pub mod Widened
pub mod WorldBox
