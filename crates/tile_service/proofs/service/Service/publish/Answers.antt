use Rattle.std.proofs.Common.{◌≡◌, inr, ℕ, [], ◌∷◌, Result, Ok, Err, refl, ap, subst, sym, arith}
use Rattle.sector_disk.specs.Asked.{MayWrite}
use Rattle.sector_disk.specs.Disk.{seen}
use Rattle.std.proofs.lemmas.List.Elements.{All-nil}
use Rattle.tile_service.specs.Machine.{begin}
use Rattle.tile_service.specs.Runs.{IsUnfinished}
use Rattle.tile_service.proofs.Publications.WholePublication.{begin_counts, begin_given_up, begin_no_step, begun_there}
use Rattle.tile_service.proofs.Runs.Callers.{begin_step, run_begins, run_on, takes_run}
use Rattle.tile_service.proofs.Runs.OneEvent.{no_known}
use Rattle.tile_service.proofs.Runs.States.{takes_states}
use Rattle.tile_service.proofs.Runs.Wholes.{whole_of}
use Rattle.tile_service.proofs.service.Service.publish.Goals as goal

-- ---- no publication begins

pub returns-in-Err-clause-run : goal.returns-in-Err-clause-run
returns-in-Err-clause-run g c =
    let call = c.in-Err.ensures in
    let old = c.args.self.now in
    let new = c.publish_begin.new.self in
    let goes = begin_step g.D.Sectors.sectors g.D.Sectors.honest g.D.Sectors.history old new (Err c.in-Err.refusal) call.machine call.same call.up in
    let run = run_on g.D.Sectors.sectors g.D.Sectors.honest g.D.Sectors.history old old new [] (begin (Err c.in-Err.refusal))
    (run_begins g.D.Sectors.sectors g.D.Sectors.honest g.D.Sectors.history old) goes in
    record {
      before = [];
      unfinished = All-nil IsUnfinished;
      last = Err c.in-Err.refusal;
      takes = (new, goes, refl);
      run = takes_run g.D.Sectors.sectors g.D.Sectors.honest g.D.Sectors.history old (begin (Err c.in-Err.refusal) ∷ []) new run;
      states = takes_states g.D.Sectors.sectors g.D.Sectors.honest g.D.Sectors.history old (begin (Err c.in-Err.refusal) ∷ []) new (new, goes, refl);
      ends = refl;
    }

pub returns-in-Err-clause-failed : goal.returns-in-Err-clause-failed
returns-in-Err-clause-failed g c =
    begin_counts _ _ c.in-Err.refusal _ _ (c.in-Err.ensures.machine no_known) (ap (λ s. g.D.Sectors.faults s.disk) c.in-Err.ensures.same)

pub returns-in-Err-clause-given_up : goal.returns-in-Err-clause-given_up
returns-in-Err-clause-given_up g c =
    begin_given_up no_known _ _ _ c.in-Err.refusal (c.in-Err.ensures.machine no_known) c.in-Err.ensures.refused

pub returns-in-Err-clause-archive : goal.returns-in-Err-clause-archive
returns-in-Err-clause-archive g c =
    let call = c.in-Err.ensures in
    let goes = begin_step g.D.Sectors.sectors g.D.Sectors.honest g.D.Sectors.history c.args.self.now c.publish_begin.new.self (Err c.in-Err.refusal)
    call.machine call.same call.up in
    goes.keeps_archive (begin_no_step _ _)

pub returns-in-Err-clause-area : goal.returns-in-Err-clause-area
returns-in-Err-clause-area g c honest at inside = ap (λ s. seen (g.D.Sectors.history s.disk) at) c.in-Err.ensures.same

pub returns-in-Err-clause-size : goal.returns-in-Err-clause-size
returns-in-Err-clause-size g c = ap (λ s. s.size) c.in-Err.ensures.same

pub returns-in-Err-clause-disk : goal.returns-in-Err-clause-disk
returns-in-Err-clause-disk g c = subst (λ s. MayWrite g.D.Sectors.sectors g.D.Sectors.honest c.args.self.now.disk s.disk) (sym c.in-Err.ensures.refused)
    (record { same_count = refl; was_honest = λ is_honest. is_honest })

pub returns-in-Err-clause-refused : goal.returns-in-Err-clause-refused
returns-in-Err-clause-refused g c = λ other. c.in-Err.ensures.refused

-- ---- one begins

pub returns-in-Ok-publish_rest-clause-run : goal.returns-in-Ok-publish_rest-clause-run
returns-in-Ok-publish_rest-clause-run g c =
    let call = c.in-Ok.ensures in
    let rest = c.in-Ok-publish_rest.ensures.run in
    let goes = begin_step g.D.Sectors.sectors g.D.Sectors.honest g.D.Sectors.history c.args.self.now c.publish_begin.new.self (Ok c.in-Ok.field-0)
    call.machine call.same call.up in
    whole_of g.D.Sectors.sectors g.D.Sectors.honest g.D.Sectors.history c.args.self.now c.publish_begin.new.self c.publish_rest.new.self c.in-Ok.field-0 _
    (Ok c.in-Ok-publish_rest.done) goes (omega (arith, (call.machine no_known).told_is)) rest
    (rest.ends.0, rest.ends.1, ap (λ s. s.journal.last) c.self.view_is, rest.ends.3)

pub returns-in-Err-publish_rest-clause-run : goal.returns-in-Err-publish_rest-clause-run
returns-in-Err-publish_rest-clause-run g c =
    let call = c.in-Ok.ensures in
    let rest = c.in-Err-publish_rest.ensures.run in
    let goes = begin_step g.D.Sectors.sectors g.D.Sectors.honest g.D.Sectors.history c.args.self.now c.publish_begin.new.self (Ok c.in-Ok.field-0)
    call.machine call.same call.up in
    whole_of g.D.Sectors.sectors g.D.Sectors.honest g.D.Sectors.history c.args.self.now c.publish_begin.new.self c.publish_rest.new.self c.in-Ok.field-0 _
    (Err c.in-Err-publish_rest.fault) goes (omega (arith, (call.machine no_known).told_is)) rest rest.ends

pub returns-in-Err-publish_rest-clause-refused : goal.returns-in-Err-publish_rest-clause-refused
returns-in-Err-publish_rest-clause-refused g c not =
    let there = begun_there no_known _ c.args.self.now c.publish_begin.new.self c.in-Ok.field-0 (c.in-Ok.ensures.machine no_known) in
    absurd (not (c.in-Err-publish_rest.ensures.given_up there.0 there.1).0)

pub returns-in-Err-publish_rest-clause-given_up : goal.returns-in-Err-publish_rest-clause-given_up
returns-in-Err-publish_rest-clause-given_up g c =
    let there = begun_there no_known _ c.args.self.now c.publish_begin.new.self c.in-Ok.field-0 (c.in-Ok.ensures.machine no_known) in
    inr (inr (c.in-Err-publish_rest.ensures.given_up there.0 there.1).1)
