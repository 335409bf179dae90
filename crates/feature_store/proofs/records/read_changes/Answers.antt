use Rattle.std.proofs.lemmas.Grind.{common_steps}
use Rattle.std.proofs.Common.{◌≡◌, ◌∷◌, [], length, map, arith}
use Rattle.std.proofs.lemmas.List.{map-append, length-map, length-append}
use Rattle.feature_store.specs.Prepared.{prepared_data}
use Rattle.feature_store.specs.Records.{HasNoNext}
use Rattle.feature_store.proofs.RecordTexts.{one_more, none_next, all_read, bad_or_memory}
use Rattle.feature_store.proofs.records.read_changes.Goals as goal

pub returns-in-Err-clause-only : goal.returns-in-Err-clause-only
returns-in-Err-clause-only c = λ cs is.
    let done = map prepared_data c.loop.changes.items in
    bad_or_memory c.in-Err.fault (HasNoNext done c.loop.rest.now) (rw c.deref.ensures.value at c.in-Err.ensures.fault)
    (λ none. none_next c.args.count done c.loop.rest.now c.args.text.now c.loop.invariant.read cs
    (omega (arith, length-map c.loop.changes.items prepared_data, c.loop.invariant.each, c.loop-test.true)) none is)

pub loop-preserved : goal.loop-preserved
loop-preserved c =
    let next = c.in-Ok.read.0 in
    let done = map prepared_data c.loop.changes.items in
    rw (c.push_reserved.ensures.items, map-append prepared_data c.loop.changes.items (next ∷ [])) record {
      read =
          one_more done (prepared_data next) c.loop.rest.now c.in-Ok.read.1.now c.args.text.now c.loop.invariant.read c.in-Ok.ensures.change
          (rw c.deref.ensures.value at c.in-Ok.ensures.new) c.in-Ok.ensures.text;
      each = omega (arith, length-append c.loop.changes.items (next ∷ []), c.loop.invariant.each);
      most = omega (arith, c.loop-test.true);
      len = omega (arith, c.loop.invariant.len, c.push_reserved.ensures.len);
      room = omega (arith, c.loop.invariant.room, c.push_reserved.ensures.capacity);
    }

pub returns-then-rest-gt0-clause-only : goal.returns-then-rest-gt0-clause-only
returns-then-rest-gt0-clause-only c = λ cs is.
    let full : length (map prepared_data c.loop.changes.items) ≡ c.args.count =
    omega (arith, length-map c.loop.changes.items prepared_data, c.loop.invariant.each, c.loop.invariant.most, c.loop-test.false) in
    let none = all_read c.args.count (map prepared_data c.loop.changes.items) c.loop.rest.now c.args.text.now c.loop.invariant.read cs full is in
    absurd (omega (arith, none.0, c.if-rest-gt0.true))

pub returns-clause-only : goal.returns-clause-only
returns-clause-only c = λ cs is.
    let full : length (map prepared_data c.loop.changes.items) ≡ c.args.count =
    omega (arith, length-map c.loop.changes.items prepared_data, c.loop.invariant.each, c.loop.invariant.most, c.loop-test.false) in
    (all_read c.args.count (map prepared_data c.loop.changes.items) c.loop.rest.now c.args.text.now c.loop.invariant.read cs full is).1

pub returns-clause-found : goal.returns-clause-found
returns-clause-found c = grind (arith, common_steps)

pub push_reserved-requires : goal.push_reserved-requires
push_reserved-requires c = omega (arith, c.loop.invariant.len, c.loop.invariant.room, c.loop-test.true)
