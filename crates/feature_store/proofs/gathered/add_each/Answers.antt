use Rattle.std.proofs.Common.{◌++◌, map, take, sym, ap, subst, ◌∙◌, append_assoc, arith}
use Rattle.std.proofs.lemmas.List.{take_all}
use Rattle.feature_model.specs.Limits.{IsAllowed}
use Rattle.feature_model.proofs.Mapped.{read_from_map}
use Rattle.feature_store.specs.Chosen.{found_data}
use Rattle.feature_store.specs.Gathered.{Gathers}
use Rattle.feature_store.specs.Layers.{cuts_of}
use Rattle.feature_store.proofs.Chosen.{found_more}
use Rattle.feature_store.proofs.Gathers.{gathers_same}
use Rattle.feature_store.proofs.gathered.add_each.Goals as goal

pub add_shown-requires-clause-allowed : goal.add_shown-requires-clause-allowed
add_shown-requires-clause-allowed c =
    read_from_map (λ e. IsAllowed e.0 e.1) found_data c.args.found.now c.loop-one.one-index c.one-item.result c.requires.allowed c.loop-one-test.true
    c.one-item.is

pub loop-one-preserved : goal.loop-one-preserved
loop-one-preserved c = λ fs gathers.
    let at = c.args.at in
    let before = take c.loop-one.one-index c.args.found.now in
    gathers_same c.add_shown.new.gathered _ _
    (λ name. append_assoc (fs name) (cuts_of (map found_data before) name at.z at.x at.y) _
    ∙ ap (λ cuts. fs name ++ cuts) (sym (found_more c.args.found.now c.loop-one.one-index c.one-item.result name at.z at.x at.y c.loop-one-test.true
    c.one-item.is)))
    (c.in_ok-add_shown.ensures _ (c.loop-one.invariant fs gathers))

pub returns : goal.returns
returns c = λ fs gathers.
    let at = c.args.at in
    subst (λ found. Gathers c.loop-one.gathered (λ name. fs name ++ cuts_of (map found_data found) name at.z at.x at.y))
    (take_all c.loop-one.one-index c.args.found.now (omega (arith, c.loop-one-test.false)))
    (c.loop-one.invariant fs gathers)
