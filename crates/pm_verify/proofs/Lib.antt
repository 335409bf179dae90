pub mod CountedLaws
pub mod VerifiedClauses
pub mod VerifiedFaults
pub mod VerifiedLaws
