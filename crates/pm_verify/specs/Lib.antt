pub mod Shown
pub mod Verified
pub mod VerifiedPieces
