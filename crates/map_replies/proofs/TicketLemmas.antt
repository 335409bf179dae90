-- Downloads: what is read by a ticket, and what that leaves.
use Rattle.std.proofs.Common.{◌≡◌, ◌≢◌, ℕ, sym, ap, subst}
use Rattle.std.specs.Prelude.{Result, Ok, Err, IfErr}
use Rattle.sector_disk.specs.Asked.{OnlyReads}
use Rattle.sector_disk.specs.Disk.{History, seen}
use Rattle.published_tiles.specs.declared.place.ArchivePlace.{ArchivePlace}
use Rattle.tile_service.specs.Service.{ServiceView}
use Rattle.tile_service.specs.Tickets.{IsHeld}
use Rattle.tile_service.specs.declared.fault.ServiceFault.{ServiceFault}
use Rattle.tile_service.specs.declared.fault.ServiceFault.TheVariants.{Device}
use Rattle.tile_service.proofs.Archive.Tickets as tickets
use Rattle.map_replies.specs.Tickets.{oldest_after}

module _ {D : Type 0} (sectors : D → ℕ) (honest : D → Type 0) (history : D → History) where
  -- ---- tickets

  module _ (place : ArchivePlace) (first : ServiceView D) (oldest : ℕ) (old new : ServiceView D) (held : IsHeld honest history place first oldest old) where
    -- a ticket is held while the disk is only read
    pub held_reading : (reads : OnlyReads sectors honest history old.disk new.disk) → new.size ≡ old.size → new.generation ≡ old.generation
        → IsHeld honest history place first oldest new
    held_reading reads size generation = tickets.held_on sectors honest history place first oldest old held new size generation reads.was_honest
        (λ g is_honest at inside. ap (λ (h : History). seen h at) (reads.same_history is_honest))

    -- and while nothing is asked of it
    pub held_unasked : new.disk ≡ old.disk → new.size ≡ old.size → new.generation ≡ old.generation → IsHeld honest history place first oldest new
    held_unasked same size generation = tickets.held_on sectors honest history place first oldest old held new size generation
        (λ is_honest. subst honest same is_honest) (λ g is_honest at inside. ap (λ (d : D). seen (history d) at) same)

  -- and through a call that makes steps, or is refused
  pub held_stepped : {A : Type 0} (outcome : Result A ServiceFault) (place : ArchivePlace) (first : ServiceView D) (oldest : ℕ) (old new : ServiceView D)
      → IfErr outcome (λ fault. fault ≢ Device → new ≡ old) → IsHeld honest history place first old.generation new
      → IsHeld honest history place first oldest old → IsHeld honest history place first (oldest_after outcome oldest old.generation) new
  held_stepped (Ok done) place first oldest old new refused stepped held = stepped
  held_stepped (Err Device) place first oldest old new refused stepped held = stepped
  held_stepped (Err fault) place first oldest old new refused stepped held =
      subst (λ (s : ServiceView D). IsHeld honest history place first oldest s) (sym (refused (λ e. cc))) held
