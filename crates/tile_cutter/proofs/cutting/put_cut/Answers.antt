use Rattle.std.proofs.Common.{refl, sym, ◌∙◌}
use Rattle.edit_text.specs.Views.{feature_view}
use Rattle.tile_cutter.proofs.PutShapes.{hidden_by_zoom, shown_or_none, what_is_shown}
use Rattle.tile_cutter.proofs.cutting.put_cut.Goals as goal

pub returns-then-not-has_zoom-clause-none : goal.returns-then-not-has_zoom-clause-none
returns-then-not-has_zoom-clause-none c =
    let at = c.args.at in (
      λ e. hidden_by_zoom (feature_view c.args.feature) at.z at.x at.y (sym c.has_zoom.ensures ∙ c.if-not-has_zoom.true),
      λ e. refl,
    )

pub returns-clause-none : goal.returns-clause-none
returns-clause-none c =
    let at = c.args.at in
    shown_or_none c.put_geometry.new.out (feature_view c.args.feature) at.z at.x at.y c.in_ok-kind.kind
    (sym c.has_zoom.ensures ∙ c.if-not-has_zoom.false) c.in_ok-kind.ensures

pub returns-clause-shape : goal.returns-clause-shape
returns-clause-shape c =
    let at = c.args.at in
    what_is_shown c.put_geometry.new.out (feature_view c.args.feature) at.z at.x at.y c.in_ok-kind.kind
    (sym c.has_zoom.ensures ∙ c.if-not-has_zoom.false) c.in_ok-kind.ensures
