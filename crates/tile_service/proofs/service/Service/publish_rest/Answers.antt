use Rattle.std.proofs.Common.{◌≡◌, ℕ, [], ◌∷◌, ◌++◌, Result, Ok, Err, refl, ◌∙◌, ap, subst, arith}
use Rattle.tile_service.specs.Machine.{step}
use Rattle.std.specs.Prelude.{map}
use Rattle.std.proofs.lemmas.List.Elements.{All-nil}
use Rattle.tile_service.specs.Runs.{IsUnfinished, Takes}
use Rattle.tile_service.specs.declared.fault.ServiceFault.{ServiceFault}
use Rattle.tile_service.specs.Service.{state_of, known_after, KeepsArea, CountsDevice}
use Rattle.tile_service.proofs.Runs.Callers.{step_step, run_begins, one_more_step, takes_run}
use Rattle.tile_service.proofs.Runs.States.{takes_states}
use Rattle.tile_service.proofs.Runs.OneEvent.{no_known}
use Rattle.tile_service.proofs.Archive.Unchanged.{keeps_on, area_on}
use Rattle.tile_service.proofs.Publications.WholePublication.{Stands, on_stands, falls, only_device, device_gives_up, step_given_up}
use Rattle.tile_service.proofs.Publications.WholePublication.{none_seen, left_not_done, refused_not_done, one_more_unfinished}
use Rattle.sector_disk.proofs.AskedLaws.{writes_on}
use Rattle.tile_service.proofs.service.Service.publish_rest.Goals as goal

pub loop-rest-init : goal.loop-rest-init
loop-rest-init g c =
    let call = c.in-Ok.ensures in
    let old = c.go_on.new.self in
    let new = c.publish_step.new.self in
    let outcome : Result ℕ ServiceFault = Ok c.in-Ok.told in
    let goes : Takes g.D.Sectors.sectors g.D.Sectors.honest g.D.Sectors.history old (step outcome) new =
    step_step g.D.Sectors.sectors g.D.Sectors.honest g.D.Sectors.history old new outcome
    call.machine call.size call.touched call.drafting call.disk call.refused call.any_moment call.after call.archive call.edits in
    let more = one_more_step g.D.Sectors.sectors g.D.Sectors.honest g.D.Sectors.history old old new [] outcome
    (run_begins g.D.Sectors.sectors g.D.Sectors.honest g.D.Sectors.history old) refl goes in
    let moved = call.machine no_known in
    rw (← c.go_on.ensures) (record {
      stands = (
        known_after no_known old (step outcome),
        on_stands (state_of no_known old) (state_of (known_after no_known old (step outcome)) new) moved.0 c.in-Ok.told moved.1,
      );
      faults = call.failed;
      archive = λ some. call.archive (left_not_done c.in-Ok.told some);
      size = call.size;
      area = call.area;
      run = ([], more.0, more.1, All-nil IsUnfinished);
    })

pub loop-rest-preserved : goal.loop-rest-preserved
loop-rest-preserved g c =
    let inv = c.loop-rest.invariant in
    let call = c.in-Ok-publish_step.ensures in
    let old = c.loop-rest.self in
    let new = c.publish_step-in-loop-rest.new.self in
    let rest = c.loop-rest.rest in
    let outcome : Result ℕ ServiceFault = Ok c.in-Ok-publish_step.told in
    let goes : Takes g.D.Sectors.sectors g.D.Sectors.honest g.D.Sectors.history old (step outcome) new =
    step_step g.D.Sectors.sectors g.D.Sectors.honest g.D.Sectors.history old new outcome
    call.machine call.size call.touched call.drafting call.disk call.refused call.any_moment call.after call.archive call.edits in
    let more = one_more_step g.D.Sectors.sectors g.D.Sectors.honest g.D.Sectors.history c.args.self.now old new (inv.run.0 ++ Ok rest ∷ []) outcome
    inv.run.1 inv.run.2 goes in
    let known = inv.stands.0 in
    let moved = call.machine known in
    record {
      stands = (
        known_after known old (step outcome),
        on_stands (state_of known old) (state_of (known_after known old (step outcome)) new) moved.0 c.in-Ok-publish_step.told moved.1,
      );
      faults = call.failed ∙ inv.faults;
      archive = λ some. keeps_on g.D.Sectors.honest g.D.Sectors.history c.args.self.now old new
          (inv.archive (λ none. omega (arith, c.loop-rest-test.true, none))) call.disk.was_honest
          (call.archive (left_not_done c.in-Ok-publish_step.told some));
      size = call.size ∙ inv.size;
      area = area_on g.D.Sectors.honest g.D.Sectors.history c.args.self.now.generation c.args.self.now old new inv.size inv.area call.disk.was_honest
          (subst (λ (n : ℕ). KeepsArea g.D.Sectors.honest g.D.Sectors.history n old new)
          (inv.archive (λ none. omega (arith, c.loop-rest-test.true, none))).generation call.area);
      run = (inv.run.0 ++ Ok rest ∷ [], more.0, more.1, one_more_unfinished inv.run.0 rest inv.run.3 (omega (arith, c.loop-rest-test.true)));
    }

pub loop-rest-smaller : goal.loop-rest-smaller
loop-rest-smaller g c =
    let inv = c.loop-rest.invariant in
    let moved = c.in-Ok-publish_step.ensures.machine inv.stands.0 in
    falls (state_of inv.stands.0 c.loop-rest.self)
    (state_of (known_after inv.stands.0 c.loop-rest.self (step (Ok c.in-Ok-publish_step.told))) c.publish_step-in-loop-rest.new.self)
    c.loop-rest.rest moved.0 c.in-Ok-publish_step.told inv.stands.1 moved.1

-- ---- the first step is refused

pub returns-in-Err-clause-run : goal.returns-in-Err-clause-run
returns-in-Err-clause-run g c =
    let call = c.in-Err.ensures in
    let old = c.go_on.new.self in
    let new = c.publish_step.new.self in
    let outcome : Result ℕ ServiceFault = Err c.in-Err.fault in
    let goes : Takes g.D.Sectors.sectors g.D.Sectors.honest g.D.Sectors.history old (step outcome) new =
    step_step g.D.Sectors.sectors g.D.Sectors.honest g.D.Sectors.history old new outcome
    call.machine call.size call.touched call.drafting call.disk call.refused call.any_moment call.after call.archive call.edits in
    let more = one_more_step g.D.Sectors.sectors g.D.Sectors.honest g.D.Sectors.history old old new [] outcome
    (run_begins g.D.Sectors.sectors g.D.Sectors.honest g.D.Sectors.history old) refl goes in
    rw (← c.go_on.ensures) (record {
      before = [];
      unfinished = All-nil IsUnfinished;
      last = outcome;
      takes = more.1;
      run = takes_run g.D.Sectors.sectors g.D.Sectors.honest g.D.Sectors.history old (step outcome ∷ []) new more.0;
      states = takes_states g.D.Sectors.sectors g.D.Sectors.honest g.D.Sectors.history old (step outcome ∷ []) new more.1;
      ends = refl;
    })

pub returns-in-Err-clause-size : goal.returns-in-Err-clause-size
returns-in-Err-clause-size g c = rw (← c.go_on.ensures) c.in-Err.ensures.size

pub returns-in-Err-clause-disk : goal.returns-in-Err-clause-disk
returns-in-Err-clause-disk g c = rw (← c.go_on.ensures) c.in-Err.ensures.disk

pub returns-in-Err-clause-failed : goal.returns-in-Err-clause-failed
returns-in-Err-clause-failed g c = rw (← c.go_on.ensures) c.in-Err.ensures.failed

pub returns-in-Err-clause-refused : goal.returns-in-Err-clause-refused
returns-in-Err-clause-refused g c = rw (← c.go_on.ensures) c.in-Err.ensures.refused

pub returns-in-Err-clause-archive : goal.returns-in-Err-clause-archive
returns-in-Err-clause-archive g c = rw (← c.go_on.ensures) (c.in-Err.ensures.archive (refused_not_done c.in-Err.fault))

pub returns-in-Err-clause-area : goal.returns-in-Err-clause-area
returns-in-Err-clause-area g c = rw (← c.go_on.ensures) c.in-Err.ensures.area

pub returns-in-Err-clause-given_up : goal.returns-in-Err-clause-given_up
returns-in-Err-clause-given_up g c = rw (← c.go_on.ensures) (λ unbroken some.
    step_given_up no_known no_known c.go_on.new.self c.publish_step.new.self c.in-Err.fault unbroken some (c.in-Err.ensures.machine no_known))

-- ---- a later one is refused

pub returns-in-Err-publish_step-clause-run : goal.returns-in-Err-publish_step-clause-run
returns-in-Err-publish_step-clause-run g c =
    let inv = c.loop-rest.invariant in
    let call = c.in-Err-publish_step.ensures in
    let old = c.loop-rest.self in
    let new = c.publish_step-in-loop-rest.new.self in
    let rest = c.loop-rest.rest in
    let outcome : Result ℕ ServiceFault = Err c.in-Err-publish_step.fault in
    let goes : Takes g.D.Sectors.sectors g.D.Sectors.honest g.D.Sectors.history old (step outcome) new =
    step_step g.D.Sectors.sectors g.D.Sectors.honest g.D.Sectors.history old new outcome
    call.machine call.size call.touched call.drafting call.disk call.refused call.any_moment call.after call.archive call.edits in
    let more = one_more_step g.D.Sectors.sectors g.D.Sectors.honest g.D.Sectors.history c.args.self.now old new (inv.run.0 ++ Ok rest ∷ []) outcome
    inv.run.1 inv.run.2 goes in
    record {
      before = inv.run.0 ++ Ok rest ∷ [];
      unfinished = one_more_unfinished inv.run.0 rest inv.run.3 (omega (arith, c.loop-rest-test.true));
      last = outcome;
      takes = more.1;
      run = takes_run g.D.Sectors.sectors g.D.Sectors.honest g.D.Sectors.history c.args.self.now
          (map step ((inv.run.0 ++ Ok rest ∷ []) ++ outcome ∷ [])) new more.0;
      states = takes_states g.D.Sectors.sectors g.D.Sectors.honest g.D.Sectors.history c.args.self.now
          (map step ((inv.run.0 ++ Ok rest ∷ []) ++ outcome ∷ [])) new more.1;
      ends = refl;
    }

pub returns-in-Err-publish_step-clause-size : goal.returns-in-Err-publish_step-clause-size
returns-in-Err-publish_step-clause-size g c = c.in-Err-publish_step.ensures.size ∙ c.loop-rest.invariant.size

pub returns-in-Err-publish_step-clause-disk : goal.returns-in-Err-publish_step-clause-disk
returns-in-Err-publish_step-clause-disk g c = writes_on c.loop-rest.invariant.run.1.asked c.in-Err-publish_step.ensures.disk

pub returns-in-Err-publish_step-clause-failed : goal.returns-in-Err-publish_step-clause-failed
returns-in-Err-publish_step-clause-failed g c =
    subst (λ (count : ℕ). CountsDevice c.in-Err-publish_step.fault count (g.D.Sectors.faults c.publish_step-in-loop-rest.new.self.disk))
    c.loop-rest.invariant.faults c.in-Err-publish_step.ensures.failed

pub returns-in-Err-publish_step-clause-refused : goal.returns-in-Err-publish_step-clause-refused
returns-in-Err-publish_step-clause-refused g c not =
    let inv = c.loop-rest.invariant in
    let known = inv.stands.0 in
    let moved = c.in-Err-publish_step.ensures.machine known in
    let is = only_device (state_of known c.loop-rest.self) (state_of known c.publish_step-in-loop-rest.new.self) c.loop-rest.rest c.in-Err-publish_step.fault
    (omega (arith, c.loop-rest-test.true)) inv.stands.1 moved in
    absurd (not is)

pub returns-in-Err-publish_step-clause-archive : goal.returns-in-Err-publish_step-clause-archive
returns-in-Err-publish_step-clause-archive g c =
    keeps_on g.D.Sectors.honest g.D.Sectors.history c.args.self.now c.loop-rest.self c.publish_step-in-loop-rest.new.self
    (c.loop-rest.invariant.archive (λ none. omega (arith, c.loop-rest-test.true, none))) c.in-Err-publish_step.ensures.disk.was_honest
    (c.in-Err-publish_step.ensures.archive (refused_not_done c.in-Err-publish_step.fault))

pub returns-in-Err-publish_step-clause-area : goal.returns-in-Err-publish_step-clause-area
returns-in-Err-publish_step-clause-area g c =
    let inv = c.loop-rest.invariant in
    let old = c.loop-rest.self in
    let new = c.publish_step-in-loop-rest.new.self in
    area_on g.D.Sectors.honest g.D.Sectors.history c.args.self.now.generation c.args.self.now old new inv.size inv.area
    c.in-Err-publish_step.ensures.disk.was_honest
    (subst (λ (n : ℕ). KeepsArea g.D.Sectors.honest g.D.Sectors.history n old new)
    (inv.archive (λ none. omega (arith, c.loop-rest-test.true, none))).generation c.in-Err-publish_step.ensures.area)

pub returns-in-Err-publish_step-clause-given_up : goal.returns-in-Err-publish_step-clause-given_up
returns-in-Err-publish_step-clause-given_up g c unbroken some =
    let inv = c.loop-rest.invariant in
    let known = inv.stands.0 in
    let moved = c.in-Err-publish_step.ensures.machine known in
    let is = only_device (state_of known c.loop-rest.self) (state_of known c.publish_step-in-loop-rest.new.self) c.loop-rest.rest c.in-Err-publish_step.fault
    (omega (arith, c.loop-rest-test.true)) inv.stands.1 moved in (
      is,
      none_seen known.publishing c.publish_step-in-loop-rest.new.self.publication
          (device_gives_up (state_of known c.loop-rest.self) (state_of known c.publish_step-in-loop-rest.new.self) c.in-Err-publish_step.fault is moved),
    )

-- ---- it is installed

pub returns-clause-run : goal.returns-clause-run
returns-clause-run g c =
    let inv = c.loop-rest.invariant in
    let done : c.loop-rest.rest ≡ 0 = omega (arith, c.loop-rest-test.false) in
    record {
      before = inv.run.0;
      unfinished = inv.run.3;
      last = Ok c.loop-rest.rest;
      takes = inv.run.2;
      run = takes_run g.D.Sectors.sectors g.D.Sectors.honest g.D.Sectors.history c.args.self.now
          (map step (inv.run.0 ++ Ok c.loop-rest.rest ∷ [])) c.loop-rest.self inv.run.1;
      states = takes_states g.D.Sectors.sectors g.D.Sectors.honest g.D.Sectors.history c.args.self.now
          (map step (inv.run.0 ++ Ok c.loop-rest.rest ∷ [])) c.loop-rest.self inv.run.2;
      ends = (
        ap (λ (n : ℕ). Ok n) done,
        ap (λ s. s.generation) c.self.view_is,
        ap (λ s. s.journal.edits) c.self.view_is,
        ap (λ s. s.archive_len) c.self.view_is,
      );
    }

pub returns-clause-size : goal.returns-clause-size
returns-clause-size g c = c.loop-rest.invariant.size

pub returns-clause-disk : goal.returns-clause-disk
returns-clause-disk g c = c.loop-rest.invariant.run.1.asked

pub returns-clause-failed : goal.returns-clause-failed
returns-clause-failed g c = c.loop-rest.invariant.faults

pub returns-clause-idle : goal.returns-clause-idle
returns-clause-idle g c =
    let inv = c.loop-rest.invariant in
    let done : c.loop-rest.rest ≡ 0 = omega (arith, c.loop-rest-test.false) in
    none_seen inv.stands.0.publishing c.loop-rest.self.publication
    (subst (λ (n : ℕ). Stands (state_of inv.stands.0 c.loop-rest.self) n) done inv.stands.1)

pub returns-clause-area : goal.returns-clause-area
returns-clause-area g c = c.loop-rest.invariant.area
