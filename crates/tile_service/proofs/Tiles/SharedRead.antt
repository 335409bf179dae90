-- What is read of an archive, and shared.
use Rattle.std.proofs.Common.{ℕ, List, Option, Result, Ok, Err, Vec, Global, option_map, inl, inr, sym, subst}
use Rattle.std.specs.Prelude.{MatchResult}
use Rattle.std.specs.declared.rc.RcSlice.{RcSlice}
use Rattle.cached_map.specs.Cached.{shared_bytes}
use Rattle.pm_archive.specs.Answers.{IsOutside}
use Rattle.pm_archive.specs.declared.fault.ArchiveFault.{ArchiveFault}
use Rattle.tile_service.specs.Service.{IsShared}

-- what holds of what was read holds of what is shared
pub shared_outcome : (P : Option (List ℕ) → Type 0) (found : Result (Option (Vec ℕ Global)) ArchiveFault)
    → (shared : Result (Option (RcSlice ℕ Global)) ArchiveFault) → IsShared found shared
    → MatchResult found (λ content. P (option_map (λ bytes. bytes.items) content)) IsOutside
    → MatchResult shared (λ content. P (shared_bytes content)) IsOutside
shared_outcome P (Ok found) (Ok content) is holds = subst P (sym is) holds
shared_outcome P (Err fault) (Ok content) is holds = absurd is
shared_outcome P found (Err fault) (inl same) holds =
    subst (λ (r : Result (Option (Vec ℕ Global)) ArchiveFault). MatchResult r (λ content. P (option_map (λ bytes. bytes.items) content)) IsOutside)
    same holds
shared_outcome P found (Err fault) (inr memory) holds = inr memory
