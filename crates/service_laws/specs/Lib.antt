pub mod Begun
pub mod Beside
pub mod Inside
pub mod Moments
pub mod CopyHeld
