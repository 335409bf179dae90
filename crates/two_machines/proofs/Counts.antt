-- How many edits a service has after calls.
use Rattle.std.proofs.Common.{◌≡◌, ℕ, ◌+◌, List, [], ◌∷◌, ◌++◌, length, Ok, Err, refl, sym, ap, ◌∙◌, arith, append_assoc, length-append}
use Rattle.sector_disk.specs.Disk.{History}
use Rattle.edit_text.specs.Recorded.{RecordedEdit}
use Rattle.tile_service.specs.declared.fault.ServiceFault.{ServiceFault}
use Rattle.tile_service.specs.declared.fault.ServiceFault.TheVariants.{Broken, Device}
use Rattle.tile_service.specs.Machine.{ServiceState, Happening, edit, begin, step, cancel, check, tile, tile_number, look, look_from, metadata}
use Rattle.tile_service.specs.Machine.{read, list_edits, Happens, Refuses}
use Rattle.tile_service.specs.Runs.{edits_by, acknowledged, Takes, TakesAll, IsTrusted}
use Rattle.tile_service.specs.Service.{ServiceView, state_of, known_after}
use Rattle.tile_service.proofs.Runs.OneEvent.{no_known, step_map}

none_more : (n m : ℕ) → n ≡ m → n ≡ m + 0
none_more n m same = omega (arith, same)

same_last : (old new : ServiceState) → new ≡ old → new.last ≡ old.last + 0
same_last old new same = none_more new.last old.last (ap (λ (s : ServiceState). s.last) same)

refused_last : (is_there : Type 0) (old new : ServiceState) (fault : ServiceFault) → Refuses is_there old fault new → new.last ≡ old.last + 0
refused_last is_there old new Broken goes = same_last old new goes.1
refused_last is_there old new Device goes = none_more new.last old.last (ap (λ (s : ServiceState). s.last) goes.2)
refused_last is_there old new fault goes = same_last old new goes.2

-- one edit more after one that was acknowledged
happens_last : (trusted : Type 0) (old new : ServiceState) (h : Happening) → Happens trusted old h new → new.last ≡ old.last + length (edits_by h)
happens_last trusted old new (edit call e (Ok number)) goes = ap (λ (s : ServiceState). s.last) goes.made
happens_last trusted old new (edit call e (Err fault)) goes = refused_last _ old new fault goes
happens_last trusted old new (begin (Ok left)) goes = none_more new.last old.last (ap (λ (s : ServiceState). s.last) goes.begun)
happens_last trusted old new (begin (Err fault)) goes = refused_last _ old new fault goes
happens_last trusted old new (step outcome) goes = none_more new.last old.last (step_map old new outcome goes).1
happens_last trusted old new (cancel (Ok done)) goes = none_more new.last old.last (ap (λ (s : ServiceState). s.last) goes.1)
happens_last trusted old new (cancel (Err fault)) goes = refused_last _ old new fault goes
happens_last trusted old new (check (Ok done)) goes = same_last old new goes.1
happens_last trusted old new (check (Err fault)) goes = refused_last _ old new fault goes
happens_last trusted old new (tile z x y outcome) goes = same_last old new goes.1
happens_last trusted old new (tile_number z x y n) goes = same_last old new goes
happens_last trusted old new (look id outcome) goes = same_last old new goes.1
happens_last trusted old new (look_from id outcome) goes = same_last old new goes.1
happens_last trusted old new (metadata outcome) goes = same_last old new goes.1
happens_last trusted old new (read at outcome) goes = same_last old new goes
happens_last trusted old new (list_edits number bytes outcome) goes = same_last old new goes

pub acknowledged_both : (xs ys : List Happening) → acknowledged (xs ++ ys) ≡ acknowledged xs ++ acknowledged ys
acknowledged_both [] ys = refl
acknowledged_both (h ∷ xs) ys = ap (λ (l : List RecordedEdit). edits_by h ++ l) (acknowledged_both xs ys)
    ∙ sym (append_assoc (edits_by h) (acknowledged xs) (acknowledged ys))

module _ {D : Type 0} (sectors : D → ℕ) (honest : D → Type 0) (history : D → History) where
  pub last_after : (old new : ServiceView D) (h : Happening) → Takes sectors honest history old h new
      → new.journal.last ≡ old.journal.last + length (edits_by h)
  last_after old new h takes =
      happens_last (IsTrusted sectors honest history old new) (state_of no_known old) (state_of (known_after no_known old h) new) h (takes.machine no_known)

  pub last_after_all : (old new : ServiceView D) (hs : List Happening) → TakesAll sectors honest history old hs new
      → new.journal.last ≡ old.journal.last + length (acknowledged hs)
  last_after_all old new [] takes = none_more new.journal.last old.journal.last (ap (λ (s : ServiceView D). s.journal.last) takes)
  last_after_all old new (h ∷ hs) takes = omega (
    arith,
    last_after old takes.0 h takes.1,
    last_after_all takes.0 new hs takes.2,
    length-append (edits_by h) (acknowledged hs),
  )
