use Rattle.std.proofs.Common.{◌+◌, List, [], ◌∷◌, ◌++◌, refl, sym, ap, subst, ◌∙◌, arith}
use Rattle.pm_build.specs.Building.{BuilderView, CanAdd, AreTooMany, BeginsRun}
use Rattle.pm_build.specs.Joined.{run_views}
use Rattle.pm_build.specs.Kept.{tiles_kept, tiles_with}
use Rattle.pm_build.specs.Storing.{ContentsView}
use Rattle.pm_build.specs.Tiles.{Tile}
use Rattle.pm_build.proofs.Adding.{tiles_room, views_end}
use Rattle.pm_build.proofs.Entries.{end_low}
use Rattle.pm_build.proofs.Keeping.{IsAdded, added, same, too_many}
use Rattle.pm_build.proofs.builder.ArchiveBuilder.add.Goals as goal

pub add_tile-requires-clause-end : goal.add_tile-requires-clause-end
add_tile-requires-clause-end c =
    let inside = c.self.inside in
    omega (
      arith,
      views_end inside.contents.index.contents inside.runs.items,
      end_low (tiles_kept inside) (run_views inside.contents.index.contents inside.runs.items) c.self.invariant.tiles c.self.invariant.longest,
    )

pub returns-in-Err-clause-many : goal.returns-in-Err-clause-many
returns-in-Err-clause-many c =
    let t : Tile = (c.args.id, c.args.content.now) in
    let inside = c.self.inside in
    let w = c.drop_ahead.new.self.index in
    let stays = ap (λ (v : ContentsView). v.index) c.drop_ahead.ensures in
    let s = same inside.contents.index w inside.runs.items inside.runs.items inside.addressed c.self.invariant stays refl in
    let tiles = s.tiles_are ∙ ap (λ (v : BuilderView). v.tiles) c.self.view_is in
    let test = too_many w inside.runs.items inside.addressed t s.kept in (
      λ told. subst (λ (ts : List Tile). AreTooMany (ts ++ t ∷ [])) tiles (test.0 (c.in-Err.ensures.many.0 told)),
      λ many. c.in-Err.ensures.many.1 (test.1 (subst (λ (ts : List Tile). AreTooMany (ts ++ t ∷ [])) (sym tiles) many)),
    )

pub returns-in-Err-clause-memory : goal.returns-in-Err-clause-memory
returns-in-Err-clause-memory c told =
    let t : Tile = (c.args.id, c.args.content.now) in
    let inside = c.self.inside in
    let w = c.drop_ahead.new.self.index in
    let stays = ap (λ (v : ContentsView). v.index) c.drop_ahead.ensures in
    let s = same inside.contents.index w inside.runs.items inside.runs.items inside.addressed c.self.invariant stays refl in
    let tiles = s.tiles_are ∙ ap (λ (v : BuilderView). v.tiles) c.self.view_is in
    subst (λ (ts : List Tile). BeginsRun ts t) tiles (run_views w.contents inside.runs.items, s.kept.longest, c.in-Err.ensures.memory told)

pub overflow_add-self : goal.overflow_add-self
overflow_add-self c = omega (arith, c.self.invariant.counted, tiles_room (tiles_kept c.self.inside) c.self.invariant.tiles)

is_added : (c : goal.After-self-1)
    → IsAdded c.drop_ahead.new.self.index c.self.inside.runs.items (c.args.id, c.args.content.now) c.add_tile.new.contents.index
    c.add_tile.new.runs.items (c.self.inside.addressed + 1)
is_added c =
    let t : Tile = (c.args.id, c.args.content.now) in
    let inside = c.self.inside in
    let w = c.drop_ahead.new.self.index in
    let stays = ap (λ (v : ContentsView). v.index) c.drop_ahead.ensures in
    let s = same inside.contents.index w inside.runs.items inside.runs.items inside.addressed c.self.invariant stays refl in
    let tiles = s.tiles_are ∙ ap (λ (v : BuilderView). v.tiles) c.self.view_is in
    added w c.add_tile.new.contents.index inside.runs.items c.add_tile.new.runs.items inside.addressed t s.kept
    (subst (λ (ts : List Tile). CanAdd ts t) (sym tiles) c.requires) c.in-Ok.ensures.added c.in-Ok.ensures.contents c.in-Ok.ensures.firsts
    c.in-Ok.ensures.places c.in-Ok.ensures.few

pub invariant_of-self-2 : goal.invariant_of-self-2
invariant_of-self-2 c = (is_added c).kept

pub returns-clause-added : goal.returns-clause-added
returns-clause-added c =
    let t : Tile = (c.args.id, c.args.content.now) in
    let stays = ap (λ (v : ContentsView). tiles_with v.index c.self.inside.runs.items) c.drop_ahead.ensures in
    (is_added c).tiles_are ∙ ap (λ (ts : List Tile). ts ++ t ∷ []) (stays ∙ ap (λ (v : BuilderView). v.tiles) c.self.view_is)

pub returns-clause-few : goal.returns-clause-few
returns-clause-few c = (is_added c).few

pub returns-clause-many : goal.returns-clause-many
returns-clause-many c =
    let t : Tile = (c.args.id, c.args.content.now) in
    let inside = c.self.inside in
    let w = c.drop_ahead.new.self.index in
    let stays = ap (λ (v : ContentsView). v.index) c.drop_ahead.ensures in
    let s = same inside.contents.index w inside.runs.items inside.runs.items inside.addressed c.self.invariant stays refl in
    let tiles = s.tiles_are ∙ ap (λ (v : BuilderView). v.tiles) c.self.view_is in
    let test = too_many w inside.runs.items inside.addressed t s.kept in (
      λ told. subst (λ (ts : List Tile). AreTooMany (ts ++ t ∷ [])) tiles (test.0 (c.in-Ok.ensures.many.0 told)),
      λ many. c.in-Ok.ensures.many.1 (test.1 (subst (λ (ts : List Tile). AreTooMany (ts ++ t ∷ [])) (sym tiles) many)),
    )
