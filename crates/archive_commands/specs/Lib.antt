pub mod Faults
pub mod Pieces
pub mod Shown
pub mod Verdicts
