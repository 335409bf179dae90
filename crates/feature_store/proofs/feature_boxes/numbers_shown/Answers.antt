use Rattle.std.proofs.Common.{subst, ◌≡◌, arith}
use Rattle.std.proofs.lemmas.List.{take_all}
use Rattle.box_index.specs.Shown.{ids_shown}
use Rattle.feature_store.proofs.Boxes.{shown_more}
use Rattle.feature_store.proofs.feature_boxes.numbers_shown.Goals as goal

pub loop-entry-preserved : goal.loop-entry-preserved
loop-entry-preserved c =
    shown_more c.args.bounds.now c.args.zoom c.args.boxes.now c.loop-entry.entry-index _ c.loop-entry.numbers.items c.append_shown.new.numbers.items
    c.loop-entry-test.true c.loop-entry.invariant c.in_ok-append_shown.ensures

pub returns : goal.returns
returns c =
    subst (λ es. c.loop-entry.numbers.items ≡ ids_shown c.args.bounds.now c.args.zoom es)
    (take_all c.loop-entry.entry-index c.args.boxes.now (omega (arith, c.loop-entry-test.false))) c.loop-entry.invariant
