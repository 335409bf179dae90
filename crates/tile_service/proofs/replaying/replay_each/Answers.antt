use Rattle.std.proofs.lemmas.Grind.{common_steps}
use Rattle.std.proofs.Common.{◌≡◌, ◌<◌, ◌+◌, List, [], ◌∷◌, ◌++◌, length, sym, ◌∙◌, ap, subst, arith, rules, append_assoc, length-append}
use Rattle.std.proofs.lemmas.List.{length-map, map-append}
use Rattle.std.proofs.lemmas.Result.{err_from_is_err_and}
use Rattle.std.specs.Vec.Iter.{into_iter_items}
use Rattle.edit_journal.specs.Records.{RecordData, record_data, records_of}
use Rattle.edit_journal.specs.declared.records.Record.{Record}
use Rattle.feature_store.specs.Store.{snapshot}
use Rattle.feature_store.specs.declared.limit.TheConstants.{TEXTS_END}
use Rattle.tile_service.specs.Replayed.{AreMade, IsReplayFault, bytes_of}
use Rattle.tile_service.proofs.Disk.Replayed.{replay_fault, replayed_one, short_one}
use Rattle.tile_service.proofs.replaying.replay_each.Goals as goal

records_append : (found more : List Record) → records_of (found ++ more) ≡ records_of found ++ records_of more
records_append found more = map-append record_data found more

-- with an answer the must-fail edit last_replayed_edit_forgotten is refused at once
pub loop-recorded-init : goal.loop-recorded-init
loop-recorded-init c = record {
  can_next = tt;
  is_finite = tt;
  items = search rules;
  left = search rules;
  made = search rules;
  reads = λ first. first;
  last = search rules;
  short = search rules;
}

pub loop-recorded-preserved : goal.loop-recorded-preserved
loop-recorded-preserved c =
    let inv = c.loop-recorded.invariant in
    let yielded = c.loop-recorded.yielded in
    let record_is = c.in-Some.recorded in
    let rest = into_iter_items c.next.new.self in
    let steps = c.in-Some.ensures.steps in
    let old = c.loop-recorded.map.features in
    let one = c.in_ok-replay_one.ensures.made in
    record {
      can_next = tt;
      is_finite = tt;
      items = append_assoc yielded (record_is ∷ []) rest ∙ ap (λ l. yielded ++ l) (sym steps.0) ∙ inv.items;
      left = omega (arith, steps.1, ap length steps.0, inv.left);
      made = subst (λ (l : List RecordData). AreMade l c.args.map.now c.replay_one.new.map) (sym (records_append yielded (record_is ∷ [])))
          (replayed_one (records_of yielded) (record_data record_is) c.args.map.now c.loop-recorded.map c.replay_one.new.map inv.made one
          (omega (
            arith,
            c.in_ok-replay_one.ensures.last,
            inv.last,
            ap length inv.items,
            length-append yielded (into_iter_items c.loop-recorded.recorded-iterator),
            length-map yielded record_data,
          ))
          c.in_ok-replay_one.ensures.now c.in_ok-replay_one.ensures.since);
      reads = λ first. c.in_ok-replay_one.ensures.reads (inv.reads first);
      last = omega (arith, c.in_ok-replay_one.ensures.last, ap length steps.0, inv.last);
      short = short_one (records_of rest) (record_data record_is) TEXTS_END old c.replay_one.new.map.features
          (subst (λ (l : List Record). length (snapshot old) + bytes_of (records_of l) < TEXTS_END) steps.0 inv.short)
          one;
    }

pub returns-in_err-replay_one-clause-fault : goal.returns-in_err-replay_one-clause-fault
returns-in_err-replay_one-clause-fault c =
    let inv = c.loop-recorded.invariant in
    let yielded = c.loop-recorded.yielded in
    let failed = c.in-Some.recorded in
    let rest = into_iter_items c.next.new.self in
    let fault = c.in_err-replay_one.field-0.0 in
    let all : yielded ++ failed ∷ rest ≡ c.args.records.items = ap (λ l. yielded ++ l) (sym c.in-Some.ensures.steps.0) ∙ inv.items in
    let p = err_from_is_err_and c.from_residual.result c.from_residual.ensures.1 in
    rw (p.1, p.2) (subst (λ l. IsReplayFault l fault) (sym (records_append yielded (failed ∷ rest)) ∙ ap records_of all)
    (replay_fault (records_of yielded) (record_data failed) (records_of rest) fault c.in_err-replay_one.ensures.fault))

pub returns-clause-made : goal.returns-clause-made
returns-clause-made c = grind (arith, common_steps)
