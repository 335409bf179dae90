use Rattle.std.proofs.Common.{◌++◌, ◌∷◌, [], Ok, refl}
use Rattle.std.proofs.lemmas.Result.{err_from_is_err_and}
use Rattle.reader.proofs.Steps.{then_on, then_stop}
use Rattle.geometry_commands.proofs.Past.{ok_is, is_ok}
use Rattle.mvt_layer.specs.Tile.{bytes_of, tag_views}
use Rattle.mvt_layer.specs.Reading.{feature_at, part_more, each_in}
use Rattle.mvt_layer.proofs.Folds.{part_at, parts_on, parts_stop, parts_done}
use Rattle.mvt_layer.proofs.checking.check_each.Goals as goal

pub loop-part-init : goal.loop-part-init
loop-part-init c = ([], refl)

pub returns-in_err-check_feature-clause-fault : goal.returns-in_err-check_feature-clause-fault
returns-in_err-check_feature-clause-fault c =
    let p = err_from_is_err_and c.from_residual.result c.from_residual.ensures.1 in
    let raw = c.args.raw.now in
    let i = c.loop-part.part-index in
    let read = feature_at (bytes_of c.args.keys.now) (tag_views c.args.values.now) in
    let h = c.loop-part.invariant in
    let d = c.in_err-check_feature.field-0.0 in
    rw (p.1, p.2) (λ other. parts_stop (part_more read) raw i h.0 d _ c.loop-part-test.true h.1
    (then_stop (read (part_at raw i)) (λ x. Ok (h.0 ++ x ∷ [])) d (c.in_err-check_feature.ensures.fault other)))

pub loop-part-preserved : goal.loop-part-preserved
loop-part-preserved c =
    let raw = c.args.raw.now in
    let i = c.loop-part.part-index in
    let read = feature_at (bytes_of c.args.keys.now) (tag_views c.args.values.now) in
    let h = c.loop-part.invariant in
    let x = ok_is (read (part_at raw i)) c.in_ok-check_feature.ensures.found in (
      h.0 ++ x.0 ∷ [],
      parts_on (part_more read) raw i h.0 (h.0 ++ x.0 ∷ []) _ c.loop-part-test.true h.1
          (then_on (read (part_at raw i)) (λ x. Ok (h.0 ++ x ∷ [])) x.0 x.1),
    )

pub returns-clause-found : goal.returns-clause-found
returns-clause-found c =
    let raw = c.args.raw.now in
    let read = feature_at (bytes_of c.args.keys.now) (tag_views c.args.values.now) in
    let h = c.loop-part.invariant in
    is_ok (each_in read (bytes_of raw)) h.0 (parts_done (part_more read) raw c.loop-part.part-index h.0 _ c.loop-part-test.false h.1)
