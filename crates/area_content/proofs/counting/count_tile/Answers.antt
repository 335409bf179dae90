use Rattle.std.proofs.Common.{List, refl, sym, subst}
use Rattle.std.specs.List.{All}
use Rattle.feature_store.specs.Tiles.{IsTile}
use Rattle.pm_build.specs.Tiles.{Tile}
use Rattle.area_content.proofs.counting.count_tile.Goals as goal

pub place_of_equal-requires-clause-of_map : goal.place_of_equal-requires-clause-of_map
place_of_equal-requires-clause-of_map c =
    subst (λ (ts : List Tile). All (IsTile c.args.tiles.now.features) ts) (sym (c.if-join.ensures.unchanged refl)) c.requires.of_map
