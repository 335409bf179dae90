use Rattle.std.specs.Int.{w128}
use Rattle.tile_cutter.specs.Cut.{twice_area}
use Rattle.std.proofs.lemmas.Result.{err_from_is_err_and}
use Rattle.std.proofs.Math.Facts.{to_z-of_z}
use Rattle.std.proofs.lemmas.Grind.{common_steps}
use Rattle.std.proofs.Common.{◌<◌, ◌^◌, length, true, ap, subst, arith, ◌∙◌, sym, rules, FitsSigned}
use Rattle.std.specs.Prelude.{All, option_to_list}
use Rattle.edit_text.specs.Views.{points_view}
use Rattle.tile_cutter.specs.Passes.{shown_ring}
use Rattle.tile_cutter.specs.Range.{IsDrawable}
use Rattle.tile_cutter.proofs.Areas.{ring_with_area}
use Rattle.tile_cutter.proofs.Kept.{length_ring}
use Rattle.tile_cutter.proofs.PutLists.{shown_drawable, none_drawable, flat_hidden}
use Rattle.tile_cutter.proofs.rings.is_ring_shown.Goals as goal

pub wind-requires-clause-ring : goal.wind-requires-clause-ring
wind-requires-clause-ring c =
    rw c.deref_mut.ensures.value
    (ring_with_area c.gather_ring.new.ring.items _ c.twice_area-area.result c.in_ok-gather_ring.ensures.ring c.twice_area-area.ensures c.if-area-eq0.false)

pub returns-clause-drawable : goal.returns-clause-drawable
returns-clause-drawable c =
    let at = c.args.at in
    let ring = c.gather_ring.new.ring.items in
    let is = c.in_ok-gather_ring.ensures.ring in
    let short = length_ring at.z at.x at.y (points_view c.args.points) in
    let few : length ring < 2 ^ 29 = omega (arith, ap length is, short, c.requires.few) in
    subst (λ r. All (IsDrawable true at.x at.y) (option_to_list (shown_ring c.args.role r))) is
    (shown_drawable at.x at.y c.args.role ring few c.in_ok-gather_ring.ensures.of_tile)

pub returns-clause-ring : goal.returns-clause-ring
returns-clause-ring c = grind (arith, common_steps)

pub points_meet_box-requires : goal.points_meet_box-requires
points_meet_box-requires c = c.requires.zoom

pub returns-then-not-points_meet_box-clause-ring : goal.returns-then-not-points_meet_box-clause-ring
returns-then-not-points_meet_box-clause-ring c = search rules

pub returns-then-not-points_meet_box-clause-drawable : goal.returns-then-not-points_meet_box-clause-drawable
returns-then-not-points_meet_box-clause-drawable c = none_drawable c.args.at.x c.args.at.y _ (returns-then-not-points_meet_box-clause-ring c)

pub twice_area-area-requires-clause-zoom : goal.twice_area-area-requires-clause-zoom
twice_area-area-requires-clause-zoom c = c.requires.zoom

pub twice_area-area-requires-clause-few : goal.twice_area-area-requires-clause-few
twice_area-area-requires-clause-few c = c.requires.few

pub returns-then-area-eq0-clause-ring : goal.returns-then-area-eq0-clause-ring
returns-then-area-eq0-clause-ring c =
    let fits : FitsSigned w128 c.twice_area-area.result = search rules in
    flat_hidden c.args.role _ c.twice_area-area.result fits c.twice_area-area.ensures c.if-area-eq0.true

pub returns-then-area-eq0-clause-drawable : goal.returns-then-area-eq0-clause-drawable
returns-then-area-eq0-clause-drawable c = none_drawable c.args.at.x c.args.at.y _ (returns-then-area-eq0-clause-ring c)

pub gather_ring-requires : goal.gather_ring-requires
gather_ring-requires c = c.requires.zoom

pub returns-in_err-gather_ring-clause-ring : goal.returns-in_err-gather_ring-clause-ring
returns-in_err-gather_ring-clause-ring c = rw (err_from_is_err_and c.from_residual.result c.from_residual.ensures.1).1 tt

pub returns-in_err-gather_ring-clause-drawable : goal.returns-in_err-gather_ring-clause-drawable
returns-in_err-gather_ring-clause-drawable c = rw (err_from_is_err_and c.from_residual.result c.from_residual.ensures.1).1 tt

pub wind-requires-clause-area : goal.wind-requires-clause-area
wind-requires-clause-area c =
    let fits : FitsSigned w128 c.twice_area-area.result = search rules in
    to_z-of_z fits ∙ c.twice_area-area.ensures ∙ ap twice_area (sym c.in_ok-gather_ring.ensures.ring ∙ sym c.deref_mut.ensures.value)
