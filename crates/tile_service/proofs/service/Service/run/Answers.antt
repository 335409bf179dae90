use Rattle.std.proofs.Common.{◌≡◌, ⊎_elim, ℕ, ◌+◌, List, [], ◌∷◌, ◌++◌, length, true, false, is_ok, if◌then◌else◌, refl, sym, ◌∙◌, ap, subst}
use Rattle.std.proofs.Common.{arith, append_assoc, length-append}
use Rattle.std.proofs.lemmas.Bool.{false≢true}
use Rattle.std.proofs.lemmas.List.{append-nil}
use Rattle.std.proofs.lemmas.List.Elements.{Contains-push_cases}
use Rattle.std.specs.List.{Contains}
use Rattle.std.specs.Vec.{vec_len}
use Rattle.std.specs.Vec.Iter.{into_iter_items}
use Rattle.sector_bytes.proofs.Counts.{same_count, failed_risen, risen_on, then_risen}
use Rattle.sector_disk.specs.Disk.{HasFailed}
use Rattle.tile_service.specs.Events.{Tells, AreTold, AsksTile}
use Rattle.tile_service.specs.declared.event.Answer.TheVariants.{Refused}
use Rattle.tile_service.specs.declared.fault.ServiceFault.TheVariants.{Device}
use Rattle.tile_service.proofs.Runs.Callers.{events_on, run_begins, run_on, takes_run, was_before, broken_on}
use Rattle.tile_service.proofs.Runs.OneEvent.{true_or_false}
use Rattle.tile_service.proofs.Runs.States.{takes_states}
use Rattle.tile_service.proofs.Runs.EventAnswers.{told_no_read, told_on, asks_before, asks_last}
use Rattle.tile_service.proofs.service.Service.run.Goals as goal

-- no memory for the answers

pub returns-in-Err-clause-memory : goal.returns-in-Err-clause-memory
returns-in-Err-clause-memory g c = (refl, refl)

pub returns-in-Err-clause-size : goal.returns-in-Err-clause-size
returns-in-Err-clause-size g c = refl

pub returns-in-Err-clause-version : goal.returns-in-Err-clause-version
returns-in-Err-clause-version g c = refl

pub returns-in-Err-clause-disk : goal.returns-in-Err-clause-disk
returns-in-Err-clause-disk g c = record { same_count = refl; was_honest = λ is_honest. is_honest }

pub returns-in-Err-clause-untouched : goal.returns-in-Err-clause-untouched
returns-in-Err-clause-untouched g c = λ broken. refl

pub returns-in-Err-clause-never_falls : goal.returns-in-Err-clause-never_falls
returns-in-Err-clause-never_falls g c = same_count _ _ refl

pub returns-in-Err-clause-broke : goal.returns-in-Err-clause-broke
returns-in-Err-clause-broke g c = λ unbroken broken. absurd (false≢true (sym unbroken ∙ broken))

pub returns-in-Err-clause-faults : goal.returns-in-Err-clause-faults
returns-in-Err-clause-faults g c = λ none unbroken. refl

pub returns-in-Err-clause-failed : goal.returns-in-Err-clause-failed
returns-in-Err-clause-failed g c = λ none unbroken broken. absurd (false≢true (sym unbroken ∙ broken))

-- the loop

pub loop-event-init : goal.loop-event-init
loop-event-init g c = let none = c.in-Ok.ensures.items in record {
  can_next = tt;
  is_finite = tt;
  items = c.into_iter-event-iterator.ensures.into_iter_gives.0;
  left = search;
  capacity = let counted : vec_len c.args.events ≡ length c.args.events.items = search in omega (arith, c.in-Ok.ensures.capacity, c.len.ensures, counted);
  len = c.in-Ok.ensures.len;
  never_falls = same_count _ _ refl;
  device = λ told. absurd (omega (arith, told.1, ap length none));
  broke = λ unbroken broken. absurd (false≢true (sym unbroken ∙ broken));
  faults = λ none unbroken. refl;
  failed = λ none unbroken broken. absurd (false≢true (sym unbroken ∙ broken));
  untouched = λ broken. (broken, refl);
  so = (
    [],
    subst (λ l. AreTold c.args.self.now.version [] l []) (sym none) tt,
    refl,
    run_begins g.D.Sectors.sectors g.D.Sectors.honest g.D.Sectors.history c.args.self.now,
  );
}

pub loop-event-preserved : goal.loop-event-preserved
loop-event-preserved g c =
    let inv = c.loop-event.invariant in
    let call = c.answer-answer.ensures in
    let yielded = c.loop-event.yielded in
    let given = c.loop-event.answers.items in
    let event = c.in-Some.event in
    let answer = c.answer-answer.result in
    let pushed : c.push.new.self.items ≡ given ++ answer ∷ [] =
    c.push.ensures.items ∙ ap (λ r. if is_ok r then given ++ answer ∷ [] else given) c.unwrap.ensures in
    let steps = c.in-Some.ensures.steps in
    let new = c.answer-answer.new.self in
    let happening = call.takes.0 in
    let goes = call.takes.2 in
    let no_read = told_no_read c.loop-event.self.version event answer happening call.takes.1 in
    let before = was_before g.D.Sectors.sectors g.D.Sectors.honest g.D.Sectors.history c.loop-event.self new happening goes in
    let broken_still = broken_on g.D.Sectors.sectors g.D.Sectors.honest g.D.Sectors.history c.loop-event.self new happening goes in
    record {
      can_next = tt;
      is_finite = tt;
      items = append_assoc yielded (event ∷ []) (into_iter_items c.next.new.self) ∙ ap (λ l. yielded ++ l) (sym steps.0) ∙ inv.items;
      left = omega (arith, steps.1, ap length steps.0, inv.left);
      capacity = omega (arith, inv.capacity, c.push.ensures.capacity);
      len = c.push.ensures.len ∙ ap (λ r. if is_ok r then vec_len c.loop-event.answers + 1 else vec_len c.loop-event.answers) c.unwrap.ensures
          ∙ ap (λ (n : ℕ). n + 1) inv.len ∙ sym (length-append yielded (event ∷ []));
      never_falls = λ n is. call.never_falls n (inv.never_falls n is);
      device = λ told. ⊎_elim
          (λ (was : Contains given (Refused Device)). risen_on _ _ _ (inv.device was) call.never_falls)
          (λ (now : answer ≡ Refused Device). then_risen _ _ _ inv.never_falls (call.device now))
          (Contains-push_cases given answer (Refused Device) (subst (λ l. Contains l (Refused Device)) pushed told));
      broke = λ unbroken broken. ⊎_elim
          (λ (was : c.loop-event.self.broken ≡ true). risen_on _ _ _ (inv.broke unbroken was) call.never_falls)
          (λ (not : c.loop-event.self.broken ≡ false). then_risen _ _ _ inv.never_falls (failed_risen _ _ (call.failed not broken)))
          (true_or_false c.loop-event.self.broken);
      faults = λ none unbroken. call.faults (λ asks. none (asks_last yielded event asks)) unbroken
          ∙ inv.faults (λ asks. none (asks_before yielded event asks)) (before unbroken).0;
      failed = λ none unbroken broken. ⊎_elim
          (λ (was : c.loop-event.self.broken ≡ true). subst (λ d. HasFailed (g.D.Sectors.faults c.args.self.now.disk) (g.D.Sectors.faults d))
          (sym (goes.untouched was no_read)) (inv.failed (λ asks. none (asks_before yielded event asks)) unbroken was))
          (λ (not : c.loop-event.self.broken ≡ false). subst (λ count. HasFailed count (g.D.Sectors.faults new.disk))
          (inv.faults (λ asks. none (asks_before yielded event asks)) not) (call.failed not broken))
          (true_or_false c.loop-event.self.broken);
      untouched = λ broken. let was = inv.untouched broken in ((broken_still was.0).0, goes.untouched was.0 no_read ∙ was.1);
      so = (
        inv.so.0 ++ happening ∷ [],
        subst (λ l. AreTold c.args.self.now.version (yielded ++ event ∷ []) l (inv.so.0 ++ happening ∷ [])) (sym pushed)
            (told_on c.args.self.now.version yielded given inv.so.0 event answer happening inv.so.1
            (subst (λ (v : ℕ). Tells v event answer happening) inv.so.3.version call.takes.1)),
        events_on g.D.Sectors.sectors g.D.Sectors.honest g.D.Sectors.history c.args.self.now c.loop-event.self new inv.so.0 happening inv.so.2 goes,
        run_on g.D.Sectors.sectors g.D.Sectors.honest g.D.Sectors.history c.args.self.now c.loop-event.self new inv.so.0 happening inv.so.3 goes,
      );
    }

nothing_left : {A : Type 0} (xs : List A) → length xs ≡ 0 → xs ≡ []
nothing_left [] none = refl
nothing_left (x ∷ xs) none = absurd (omega (arith, none))

-- at the end all events were yielded
all_yielded : (g : _) (c : goal.After-drop-event-iterator g) → c.loop-event.yielded ≡ c.args.events.items
all_yielded g c =
    let empty = nothing_left (into_iter_items c.loop-event.event-iterator) (sym c.loop-event.invariant.left ∙ c.in-None.ensures.steps.0) in
    sym (append-nil c.loop-event.yielded) ∙ ap (λ l. c.loop-event.yielded ++ l) (sym empty) ∙ c.loop-event.invariant.items

-- all were answered

pub returns-clause-run : goal.returns-clause-run
returns-clause-run g c =
    let so = c.loop-event.invariant.so in (
      so.0,
      subst (λ l. AreTold c.args.self.now.version l c.loop-event.answers.items so.0) (all_yielded g c) so.1,
      so.2,
      takes_run g.D.Sectors.sectors g.D.Sectors.honest g.D.Sectors.history c.args.self.now so.0 c.loop-event.self so.3,
      takes_states g.D.Sectors.sectors g.D.Sectors.honest g.D.Sectors.history c.args.self.now so.0 c.loop-event.self so.2,
    )

pub returns-clause-size : goal.returns-clause-size
returns-clause-size g c = c.loop-event.invariant.so.3.size

pub returns-clause-version : goal.returns-clause-version
returns-clause-version g c = c.loop-event.invariant.so.3.version

pub returns-clause-disk : goal.returns-clause-disk
returns-clause-disk g c = c.loop-event.invariant.so.3.asked

pub returns-clause-untouched : goal.returns-clause-untouched
returns-clause-untouched g c = λ broken. (c.loop-event.invariant.untouched broken).1

pub returns-clause-never_falls : goal.returns-clause-never_falls
returns-clause-never_falls g c = c.loop-event.invariant.never_falls

pub returns-clause-device : goal.returns-clause-device
returns-clause-device g c = c.loop-event.invariant.device

pub returns-clause-broke : goal.returns-clause-broke
returns-clause-broke g c = c.loop-event.invariant.broke

pub returns-clause-faults : goal.returns-clause-faults
returns-clause-faults g c = λ none. c.loop-event.invariant.faults (λ asks. none (subst AsksTile (all_yielded g c) asks))

pub returns-clause-failed : goal.returns-clause-failed
returns-clause-failed g c = λ none. c.loop-event.invariant.failed (λ asks. none (subst AsksTile (all_yielded g c) asks))

pub same-self : goal.same-self
same-self g c = refl

pub same-self-2 : goal.same-self-2
same-self-2 g c = refl

pub unwrap-requires : goal.unwrap-requires
unwrap-requires g c =
    let inv = c.loop-event.invariant in
    c.push.ensures.succeeds (omega (
      arith,
      inv.capacity,
      inv.len,
      length-append c.loop-event.yielded (into_iter_items c.loop-event.event-iterator),
      ap length inv.items,
      ap length c.in-Some.ensures.steps.0,
    ))
