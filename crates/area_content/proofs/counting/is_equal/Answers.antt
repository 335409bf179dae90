use Rattle.std.proofs.Common.{sym, ◌∙◌}
use Rattle.std.proofs.lemmas.List.Elements.{All-contains}
use Rattle.std.proofs.lemmas.Slice.Eq.{bytes_eq-Decides}
use Rattle.feature_store.specs.Tiles.{IsTile}
use Rattle.pm_build.specs.Different.{content_at, contents_of}
use Rattle.pm_build.specs.Tiles.{Tile}
use Rattle.area_content.proofs.MapTiles.{one_content}
use Rattle.area_content.proofs.counting.is_equal.Goals as goal

pub again-requires-clause-shown : goal.again-requires-clause-shown
again-requires-clause-shown c =
    let counted = c.args.counter.now in
    let first : Tile = (c.first_with.result, content_at (contents_of counted) c.args.place) in
    (first.1, All-contains (IsTile c.args.tiles.now.features) counted first c.requires.of_map c.first_with.ensures)

pub returns-clause-equal : goal.returns-clause-equal
returns-clause-equal c =
    let counted = c.args.counter.now in
    let m = c.args.tiles.now.features in
    let first : Tile = (c.first_with.result, content_at (contents_of counted) c.args.place) in
    let there = All-contains (IsTile m) counted first c.requires.of_map c.first_with.ensures in
    let same = one_content m c.first_with.result c.in_ok-tile.tile.items first.1 c.in_ok-tile.ensures.tile there in
    let test = bytes_eq-Decides c.as_slice.result.now c.args.content.now in (
      λ yes. sym same ∙ sym c.as_slice.ensures.value ∙ test.0 (sym c.eq.ensures ∙ yes),
      λ equal. c.eq.ensures ∙ test.1 (c.as_slice.ensures.value ∙ same ∙ equal),
    )
