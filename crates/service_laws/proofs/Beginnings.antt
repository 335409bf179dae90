-- A beginning whose answer comes late stands where its map was fixed, before what happened since.
use Rattle.std.proofs.Common.{◌≡◌, ℕ, List, [], ◌∷◌, Option, Result, Ok, Err, ap, sym, subst, ◌∙◌}
use Rattle.edit_text.specs.Recorded.{RecordedEdit}
use Rattle.tile_service.specs.declared.fault.ServiceFault.{ServiceFault}
use Rattle.tile_service.specs.declared.fault.ServiceFault.TheVariants.{Broken, Busy, Idle, NeedsUpgrade, Limit, NotFound, NumbersSpent, Memory}
use Rattle.tile_service.specs.declared.fault.ServiceFault.TheVariants.{TooManyTiles, AreaFull, JournalFull, Device}
use Rattle.service_laws.specs.Beside.{IsBeside, AreBeside, publishing}
use Rattle.tile_service.specs.Machine.{ServiceState, Publication, Happening, Happens, Runs, AnswersEdit, AnswersBegin, AnswersCheck, Accepts, CanMake}
use Rattle.tile_service.specs.Machine.{Call, single, batched, edit, begin, step, cancel, check, tile, tile_number, look, look_from, metadata, read, list_edits}

module _ (p : Option Publication) where
  -- an edit asks nothing of a publication
  accepts : (s : ServiceState) (call : Call) → Accepts s call → Accepts (publishing p s) call
  accepts s single a = a
  accepts s batched a = a

  can : (s : ServiceState) (call : Call) (e : RecordedEdit) → CanMake s call e → CanMake (publishing p s) call e
  can s call e c = record { version_is = c.version_is; accepts = accepts s call c.accepts; wanted = c.wanted; number = c.number }

  pub edit_beside : (old : ServiceState) (call : Call) (e : RecordedEdit) (outcome : Result ℕ ServiceFault) (new : ServiceState)
      → IsBeside (edit call e outcome) → AnswersEdit old call e outcome new → AnswersEdit (publishing p old) call e outcome (publishing p new)
  edit_beside old call e (Ok number) new b h = record {
    unbroken = h.unbroken;
    can = can old call e h.can;
    room = h.room;
    told = h.told;
    made = ap (publishing p) h.made;
  }
  edit_beside old call e (Err Broken) new b h = (h.0, ap (publishing p) h.1)
  edit_beside old call e (Err NeedsUpgrade) new b h = (h.0, h.1, ap (publishing p) h.2)
  edit_beside old call e (Err (Limit fault)) new b h = (h.0, (accepts old call h.1.0, h.1.1), ap (publishing p) h.2)
  edit_beside old call e (Err NotFound) new b h = (h.0, (accepts old call h.1.0, h.1.1), ap (publishing p) h.2)
  edit_beside old call e (Err NumbersSpent) new b h = (h.0, (accepts old call h.1.0, h.1.1, h.1.2), ap (publishing p) h.2)
  edit_beside old call e (Err Memory) new b h = (h.0, (h.1.0, can old call e h.1.1), ap (publishing p) h.2)
  edit_beside old call e (Err (JournalFull need free)) new b h = (h.0, (can old call e h.1.0, h.1.1, h.1.2, h.1.3), ap (publishing p) h.2)
  edit_beside old call e (Err Device) new b h = absurd b
  edit_beside old call e (Err Busy) new b h = absurd h.1
  edit_beside old call e (Err Idle) new b h = absurd h.1
  edit_beside old call e (Err TooManyTiles) new b h = absurd h.1
  edit_beside old call e (Err (AreaFull need free)) new b h = absurd h.1

  pub check_beside : (old : ServiceState) (outcome : Result (Unit {0}) ServiceFault) (new : ServiceState)
      → IsBeside (check outcome) → AnswersCheck old outcome new → AnswersCheck (publishing p old) outcome (publishing p new)
  check_beside old (Ok done) new b h = (h.0, ap (publishing p) h.1)
  check_beside old (Err Broken) new b h = (h.0, ap (publishing p) h.1)
  check_beside old (Err Device) new b h = absurd b
  check_beside old (Err NeedsUpgrade) new b h = absurd h.1
  check_beside old (Err (Limit fault)) new b h = absurd h.1
  check_beside old (Err NotFound) new b h = absurd h.1
  check_beside old (Err NumbersSpent) new b h = absurd h.1
  check_beside old (Err Memory) new b h = absurd h.1
  check_beside old (Err (JournalFull need free)) new b h = absurd h.1
  check_beside old (Err Busy) new b h = absurd h.1
  check_beside old (Err Idle) new b h = absurd h.1
  check_beside old (Err TooManyTiles) new b h = absurd h.1
  check_beside old (Err (AreaFull need free)) new b h = absurd h.1

  happens_beside : (trusted : Type 0) (old : ServiceState) (happening : Happening) (new : ServiceState) → IsBeside happening
      → Happens trusted old happening new → Happens trusted (publishing p old) happening (publishing p new)
  happens_beside trusted old (edit call e outcome) new b h = edit_beside old call e outcome new b h
  happens_beside trusted old (begin outcome) new b h = absurd b
  happens_beside trusted old (step outcome) new b h = absurd b
  happens_beside trusted old (cancel outcome) new b h = absurd b
  happens_beside trusted old (check outcome) new b h = check_beside old outcome new b h
  happens_beside trusted old (tile z x y outcome) new b h = (h.0, ap (publishing p) h.1)
  happens_beside trusted old (tile_number z x y number) new b h = ap (publishing p) h
  happens_beside trusted old (look id outcome) new b h = (h.0, ap (publishing p) h.1)
  happens_beside trusted old (look_from id outcome) new b h = (h.0, ap (publishing p) h.1)
  happens_beside trusted old (metadata outcome) new b h = (h.0, ap (publishing p) h.1)
  happens_beside trusted old (read at outcome) new b h = ap (publishing p) h
  happens_beside trusted old (list_edits number bytes outcome) new b h = ap (publishing p) h

  runs_beside : (trusted : Type 0) (old : ServiceState) (happenings : List Happening) (new : ServiceState) → AreBeside happenings
      → Runs trusted old happenings new → Runs trusted (publishing p old) happenings (publishing p new)
  runs_beside trusted old [] new b run = ap (publishing p) run
  runs_beside trusted old (happening ∷ happenings) new b run = (
    publishing p run.0,
    happens_beside trusted old happening run.0 b.0 run.1,
    runs_beside trusted run.0 happenings new b.1 run.2,
  )

-- If a beginning is answered by what was left of the map before these happenings, then it and they are a run: the machine begins, and then
-- they happen.
pub begins_before : (trusted : Type 0) (old began : ServiceState) (left : ℕ) (happenings : List Happening) (new : ServiceState)
    → AnswersBegin old (Ok left) began → AreBeside happenings → Runs trusted old happenings new
    → Runs trusted old (begin (Ok left) ∷ happenings) (publishing began.publication new)
begins_before trusted old began left happenings new begins beside run =
    let same : began ≡ publishing began.publication old = begins.begun ∙ ap (λ (s : ServiceState). publishing s.publication old) (sym begins.begun) in (
      began,
      begins,
      subst (λ (s : ServiceState). Runs trusted s happenings (publishing began.publication new)) (sym same)
          (runs_beside began.publication trusted old happenings new beside run),
    )
