-- A ticket for an archive through the calls of a service: it holds after each, and what is read for it is of the archive that was there
-- when it was taken.
use Rattle.std.proofs.Common.{◌≡◌, inl, inr, ℕ, ◌≤◌, List, [], ◌∷◌, Result, Ok, Err, refl, ap, ◌∙◌, subst, arith}
use Rattle.sector_disk.specs.Asked.{MayWrite}
use Rattle.sector_disk.specs.Disk.{History, seen}
use Rattle.published_tiles.specs.declared.place.ArchivePlace.{ArchivePlace}
use Rattle.edit_text.specs.Recorded.{RecordedEdit}
use Rattle.tile_service.specs.Machine.{ServiceState, Happening, Call, edit, begin, step, cancel, check, tile, tile_number, look, look_from, metadata}
use Rattle.tile_service.specs.Machine.{read, list_edits}
use Rattle.tile_service.specs.Machine.{Refuses, Happens, Runs}
use Rattle.tile_service.specs.Runs.{IsTrusted, Takes, TakesEdit, TakesRun}
use Rattle.tile_service.specs.Service.{ServiceView, KeepsArea, IsPlaceIn, HasArchive, SyncsDisk, archive_of, state_of, known_after}
use Rattle.tile_service.specs.Tickets.{IsHeld}
use Rattle.tile_service.specs.declared.fault.ServiceFault.{ServiceFault}
use Rattle.tile_service.specs.declared.fault.ServiceFault.TheVariants.{Broken, Device}
use Rattle.tile_service.proofs.Disk.Synced.{any_check, sync_seen}
use Rattle.tile_service.proofs.Runs.OneEvent.{no_known}
use Rattle.tile_service.proofs.Archive.Unchanged.{area_on, place_on}

-- ---- the generation

refused_rises : (is_there : Type 0) (old new : ServiceState) (fault : ServiceFault) → Refuses is_there old fault new → old.generation ≤ new.generation
refused_rises is_there old new Broken goes = omega (arith, ap (λ (s : ServiceState). s.generation) goes.1)
refused_rises is_there old new Device goes = omega (arith, ap (λ (s : ServiceState). s.generation) goes.2)
refused_rises is_there old new fault goes = omega (arith, ap (λ (s : ServiceState). s.generation) goes.2)

same_rises : (old new : ServiceState) → new ≡ old → old.generation ≤ new.generation
same_rises old new same = omega (arith, ap (λ (s : ServiceState). s.generation) same)

-- nothing that happens lowers it,
happens_rises : (trusted : Type 0) (old new : ServiceState) (h : Happening) → Happens trusted old h new → old.generation ≤ new.generation
happens_rises trusted old new (edit call e (Ok number)) goes = omega (arith, ap (λ (s : ServiceState). s.generation) goes.made)
happens_rises trusted old new (edit call e (Err fault)) goes = refused_rises _ old new fault goes
happens_rises trusted old new (begin (Ok left)) goes = omega (arith, ap (λ (s : ServiceState). s.generation) goes.begun)
happens_rises trusted old new (begin (Err fault)) goes = refused_rises _ old new fault goes
happens_rises trusted old new (step (Ok left)) (way, inl w) = omega (arith, ap (λ (s : ServiceState). s.generation) w.2)
happens_rises trusted old new (step (Ok left)) (way, inr w) = omega (arith, ap (λ (s : ServiceState). s.generation) w.2)
happens_rises trusted old new (step (Err fault)) goes = refused_rises _ old new fault goes
happens_rises trusted old new (cancel (Ok done)) goes = omega (arith, ap (λ (s : ServiceState). s.generation) goes.1)
happens_rises trusted old new (cancel (Err fault)) goes = refused_rises _ old new fault goes
happens_rises trusted old new (check (Ok done)) goes = same_rises old new goes.1
happens_rises trusted old new (check (Err fault)) goes = refused_rises _ old new fault goes
happens_rises trusted old new (tile z x y outcome) goes = same_rises old new goes.1
happens_rises trusted old new (tile_number z x y n) goes = same_rises old new goes
happens_rises trusted old new (look id outcome) goes = same_rises old new goes.1
happens_rises trusted old new (look_from id outcome) goes = same_rises old new goes.1
happens_rises trusted old new (metadata outcome) goes = same_rises old new goes.1
happens_rises trusted old new (read at outcome) goes = same_rises old new goes
happens_rises trusted old new (list_edits number bytes outcome) goes = same_rises old new goes

runs_rise : (trusted : Type 0) (old new : ServiceState) (hs : List Happening) → Runs trusted old hs new → old.generation ≤ new.generation
runs_rise trusted old new [] run = same_rises old new run
runs_rise trusted old new (h ∷ hs) (between, goes, run) =
    omega (arith, happens_rises trusted old between h goes, runs_rise trusted between new hs run)

module _ {D : Type 0} (sectors : D → ℕ) (honest : D → Type 0) (history : D → History) where
  -- nor does any call of a service,
  pub takes_rises : (old new : ServiceView D) (happening : Happening) → Takes sectors honest history old happening new → old.generation ≤ new.generation
  takes_rises old new happening goes = happens_rises (IsTrusted sectors honest history old new) (state_of no_known old)
      (state_of (known_after no_known old happening) new) happening (goes.machine no_known)

  -- or several.
  pub run_rises : (old new : ServiceView D) (happenings : List Happening) → TakesRun sectors honest history old happenings new
      → old.generation ≤ new.generation
  run_rises old new happenings run = let so = run.machine no_known in
      runs_rise (IsTrusted sectors honest history old new) (state_of no_known old) (state_of so.0 new) happenings so.1

  -- ---- the ticket

  -- It is taken.
  pub held_first : (service : ServiceView D) (oldest : ℕ) → oldest ≤ service.generation
      → IsHeld honest history (archive_of service) service oldest service
  held_first service oldest least = record {
    size = refl;
    was_honest = λ is. is;
    past = omega arith;
    least = least;
    keeps = λ kept is_honest at inside. refl;
  }

  module _ (place : ArchivePlace) (first : ServiceView D) (oldest : ℕ) (old : ServiceView D) (held : IsHeld honest history place first oldest old) where
    -- A call that writes into no area leaves it: an edit, made or refused,
    pub held_on : (new : ServiceView D) → new.size ≡ old.size → new.generation ≡ old.generation → (honest new.disk → honest old.disk)
        → ((generation : ℕ) → KeepsArea honest history generation old new) → IsHeld honest history place first oldest new
    held_on new size generation stays keeps = record {
      size = size ∙ held.size;
      was_honest = λ is_honest. held.was_honest (stays is_honest);
      past = omega (arith, held.past, generation);
      least = omega (arith, held.least, generation);
      keeps = λ kept. area_on honest history place.generation first old new held.size (held.keeps kept) stays (keeps place.generation);
    }

    pub held_edit : (failures : D → ℕ) (call : Call) (e : RecordedEdit) (outcome : Result ℕ ServiceFault) (new : ServiceView D)
        → TakesEdit sectors honest history failures old call e outcome new → IsHeld honest history place first oldest new
    held_edit failures call e outcome new takes =
        held_on new takes.size takes.keeps_archive.generation takes.asked.was_honest takes.keeps_areas

    -- a check of the disk,
    pub held_check : (outcome : Result (Unit {0}) ServiceFault) (new : ServiceView D)
        → new ≡ record old { disk = new.disk; publication = new.publication; broken = new.broken }
        → MayWrite sectors honest old.disk new.disk → (honest new.disk → SyncsDisk outcome (history old.disk) (history new.disk))
        → IsHeld honest history place first oldest new
    held_check outcome new same asked syncs = held_on new (ap (λ (s : ServiceView D). s.size) same) (ap (λ (s : ServiceView D). s.generation) same)
        asked.was_honest (λ generation is_honest at inside.
        sync_seen (history old.disk) (history new.disk) (any_check outcome (history old.disk) (history new.disk) (syncs is_honest)) at)

    -- and one that only reads.
    pub held_read : (disk : D) → (honest disk → honest old.disk) → (honest disk → history disk ≡ history old.disk)
        → IsHeld honest history place first oldest (record old { disk = disk })
    held_read disk stays same = held_on (record old { disk = disk }) refl refl stays
        (λ generation is_honest at inside. ap (λ (h : History). seen h at) (same is_honest))

    -- After a step, or a whole publication, it is held if it is for the generation from before that, at least.
    pub held_step : (new : ServiceView D) → new.size ≡ old.size → old.generation ≤ new.generation → (honest new.disk → honest old.disk)
        → KeepsArea honest history old.generation old new → IsHeld honest history place first old.generation new
    held_step new size rises stays keeps = record {
      size = size ∙ held.size;
      was_honest = λ is_honest. held.was_honest (stays is_honest);
      past = omega (arith, held.past, rises);
      least = rises;
      keeps = λ kept. area_on honest history place.generation first old new held.size (held.keeps (omega (arith, held.least, kept))) stays
          (subst (λ (n : ℕ). KeepsArea honest history n old new) (same kept) keeps);
    }
      where
        same : old.generation ≤ place.generation → old.generation ≡ place.generation
        same kept = omega (arith, kept, held.past)

    -- So what is read in its place is of the archive that was there.
    pub held_archive : IsPlaceIn first.size place → oldest ≤ place.generation → (archive : List ℕ)
        → HasArchive (history first.disk) place archive → honest old.disk → HasArchive (history old.disk) place archive
    held_archive inside kept = place_on honest history place first old inside (held.keeps kept)
