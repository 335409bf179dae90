use Rattle.std.proofs.Common.{sym, subst}
use Rattle.std.specs.List.{All}
use Rattle.feature_store.specs.Tiles.{IsTile, TilesView}
use Rattle.pm_build.specs.Different.{contents_of}
use Rattle.pm_build.proofs.Laws.{none_equal}
use Rattle.area_content.proofs.counting.place_of_equal.Goals as goal

pub is_equal-requires-clause-place : goal.is_equal-requires-clause-place
is_equal-requires-clause-place c = (c.loop-next.invariant.next.there c.in-Some.place c.in-Some.is).0

pub is_equal-requires-clause-of_map : goal.is_equal-requires-clause-of_map
is_equal-requires-clause-of_map c =
    subst (λ (v : TilesView). All (IsTile v.features) c.args.counter.now) (sym c.loop-next.invariant.same) c.requires.of_map

pub returns-clause-place : goal.returns-clause-place
returns-clause-place c =
    none_equal (contents_of c.args.counter.now) c.args.content.now c.loop-next.next c.in_default.not-Some c.loop-next.invariant.next
