use Rattle.std.proofs.Common.{◌≡◌, ◌++◌, ◌∷◌, [], true, false, refl, sym, ◌∙◌}
use Rattle.std.proofs.lemmas.Result.{err_from_is_err_and}
use Rattle.reader.proofs.Steps.{then_stop}
use Rattle.geometry_commands.proofs.Past.{is_ok}
use Rattle.mvt_layer.specs.declared.fault.TileFault.TheVariants.{LayerTwice}
use Rattle.mvt_layer.specs.Tile.{bytes_of}
use Rattle.mvt_layer.specs.Reading.{has_name, layer_at, layer_added, layer_more, layers_in}
use Rattle.mvt_layer.proofs.Checked.{layer_new, layer_twice}
use Rattle.mvt_layer.proofs.Folds.{part_at, parts_on, parts_stop, parts_done}
use Rattle.mvt_layer.proofs.Tags.{names_more, added, not_added}
use Rattle.mvt_layer.proofs.checking.check_layers.Goals as goal

pub loop-part-init : goal.loop-part-init
loop-part-init c = ([], λ q. rw c.new-names.ensures.empty refl, refl)

pub returns-in_err-name-clause-fault : goal.returns-in_err-name-clause-fault
returns-in_err-name-clause-fault c =
    let p = err_from_is_err_and c.from_residual.result c.from_residual.ensures.1 in
    let raw = c.args.raw.now in
    let i = c.loop-part.part-index in
    let h = c.loop-part.invariant in
    let d = c.in_err-name.field-0.0 in
    rw (p.1, p.2) (λ other. parts_stop layer_more raw i h.0 d _ c.loop-part-test.true h.2
    (then_stop (layer_at (part_at raw i)) (layer_added h.0) d (c.in_err-name.ensures.fault other)))

pub returns-then-not-is_new-clause-fault : goal.returns-then-not-is_new-clause-fault
returns-then-not-is_new-clause-fault c =
    let raw = c.args.raw.now in
    let i = c.loop-part.part-index in
    let h = c.loop-part.invariant in
    let l = c.in_ok-name.ensures.found in
    let name = c.in_ok-name.name.now in
    let there : has_name h.0 name ≡ true = sym (h.1 name) ∙ not_added _ (sym c.if-not-is_new.true ∙ c.in_ok-is_new.ensures.added) in
    λ _. parts_stop layer_more raw i h.0 LayerTwice _ c.loop-part-test.true h.2 (layer_twice h.0 (part_at raw i) name l.0 l.1 l.2 there)

pub loop-part-preserved : goal.loop-part-preserved
loop-part-preserved c =
    let raw = c.args.raw.now in
    let i = c.loop-part.part-index in
    let h = c.loop-part.invariant in
    let l = c.in_ok-name.ensures.found in
    let name = c.in_ok-name.name.now in
    let none : has_name h.0 name ≡ false = sym (h.1 name) ∙ added _ (sym c.if-not-is_new.false ∙ c.in_ok-is_new.ensures.added) in (
      h.0 ++ l.0 ∷ [],
      names_more c.loop-part.names c.insert.new.self h.0 l.0 c.in_ok-name.name (sym l.2) h.1 c.in_ok-is_new.ensures.updates,
      parts_on layer_more raw i h.0 (h.0 ++ l.0 ∷ []) _ c.loop-part-test.true h.2 (layer_new h.0 (part_at raw i) name l.0 l.1 l.2 none),
    )

pub returns-clause-found : goal.returns-clause-found
returns-clause-found c =
    let raw = c.args.raw.now in
    let h = c.loop-part.invariant in
    is_ok (layers_in (bytes_of raw)) h.0 (parts_done layer_more raw c.loop-part.part-index h.0 _ c.loop-part-test.false h.2)
