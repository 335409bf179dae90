pub mod Boxes
pub mod Cut
pub mod Inside
pub mod Quarters
pub mod Squares
pub mod Walk
