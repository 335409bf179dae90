pub mod BlockInside
pub mod Blocks
pub mod Inside
pub mod MapView
pub mod Positions
