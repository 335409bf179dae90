mod ListLaws
pub mod BatchLaws
mod SoFar
mod ListLemmas
mod OutlineLemmas
mod TagLemmas
mod WriteLemmas
pub mod GeometryLaws
pub mod TagLaws
pub mod FaultLaws
pub mod CheckedLaws
mod ProperLemmas
mod ListedLemmas
mod CutLemmas
