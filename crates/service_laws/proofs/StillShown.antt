-- A service that breaks, or is broken, still shows the edits that it showed.
use Rattle.std.proofs.Common.{◌≡◌, inl, inr, ℕ, List, [], Ok, Err, true, ap, ◌∙◌, refl, subst}
use Rattle.sector_disk.specs.Disk.{History}
use Rattle.edit_text.specs.Recorded.{RecordedEdit}
use Rattle.tile_service.specs.Machine.{ServiceState, Happening, edit, begin, step, cancel, check, tile, tile_number, look, look_from, metadata}
use Rattle.tile_service.specs.Machine.{read, list_edits}
use Rattle.tile_service.specs.Machine.{Happens}
use Rattle.tile_service.specs.Runs.{IsTrusted, Takes, edits_by, waiting_by}
use Rattle.tile_service.specs.Service.{ServiceView, ShowsEdits, StillShows, state_of, known_after}
use Rattle.tile_service.proofs.Runs.OneEvent.{no_known, clash}

-- a call after which the service is broken makes no edit
breaks_makes_none : (trusted : Type 0) (old new : ServiceState) (h : Happening) → Happens trusted old h new → new.broken ≡ true → edits_by h ≡ []
breaks_makes_none trusted old new (edit call e (Ok number)) goes broken =
    absurd (clash new.broken (ap (λ (s : ServiceState). s.broken) goes.made ∙ goes.unbroken) broken)
breaks_makes_none trusted old new (edit call e (Err fault)) goes broken = refl
breaks_makes_none trusted old new (begin outcome) goes broken = refl
breaks_makes_none trusted old new (step outcome) goes broken = refl
breaks_makes_none trusted old new (cancel outcome) goes broken = refl
breaks_makes_none trusted old new (check outcome) goes broken = refl
breaks_makes_none trusted old new (tile z x y outcome) goes broken = refl
breaks_makes_none trusted old new (tile_number z x y n) goes broken = refl
breaks_makes_none trusted old new (look id outcome) goes broken = refl
breaks_makes_none trusted old new (look_from id outcome) goes broken = refl
breaks_makes_none trusted old new (metadata outcome) goes broken = refl
breaks_makes_none trusted old new (read at outcome) goes broken = refl
breaks_makes_none trusted old new (list_edits number bytes outcome) goes broken = refl

-- it isn't broken after an installation
installs_unbroken : (trusted : Type 0) (old new : ServiceState) → Happens trusted old (step (Ok 0)) new → new.broken ≡ true → ⊥
installs_unbroken trusted old new (way, inl w) broken = clash new.broken (ap (λ (s : ServiceState). s.broken) w.2 ∙ way.unbroken) broken
installs_unbroken trusted old new (way, inr w) broken = clash new.broken (ap (λ (s : ServiceState). s.broken) w.2 ∙ way.unbroken) broken

module _ {D : Type 0} (sectors : D → ℕ) (honest : D → Type 0) (history : D → History) (old new : ServiceView D) (h : Happening)
    (takes : Takes sectors honest history old h new) (broken : new.broken ≡ true) where
  pub not_installed : h ≡ step (Ok 0) → ⊥
  not_installed is = installs_unbroken (IsTrusted sectors honest history old new) (state_of no_known old)
      (state_of (known_after no_known old (step (Ok 0))) new)
      (subst (λ (x : Happening). Happens (IsTrusted sectors honest history old new) (state_of no_known old) x
      (state_of (known_after no_known old x) new)) is (takes.machine no_known)) broken

  -- the edits that it showed before the call are those that it shows
  pub still_shown : (edits : List RecordedEdit) → ShowsEdits (history old.disk) old edits → honest new.disk
      → StillShows (history new.disk) old new edits [] (waiting_by h)
  still_shown edits shows is_honest =
      let none : edits_by h ≡ [] = breaks_makes_none (IsTrusted sectors honest history old new) (state_of no_known old)
      (state_of (known_after no_known old h) new) h (takes.machine no_known) broken in
      subst (λ (more : List RecordedEdit). StillShows (history new.disk) old new edits more (waiting_by h)) none
      (takes.shows edits shows is_honest (λ is. absurd (not_installed is)))
