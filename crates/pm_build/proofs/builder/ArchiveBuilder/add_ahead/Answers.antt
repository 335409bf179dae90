use Rattle.std.proofs.Common.{◌+◌, ℕ, List, [], ◌∷◌, ◌++◌, sym, ap, subst, ◌∙◌, arith}
use Rattle.pm_build.specs.Building.{BuilderView, CanAdd, AreTooMany, BeginsRun}
use Rattle.pm_build.specs.Joined.{run_views}
use Rattle.pm_build.specs.Kept.{tiles_kept}
use Rattle.pm_build.specs.Tiles.{Tile}
use Rattle.pm_build.proofs.Adding.{tiles_room, views_end}
use Rattle.pm_build.proofs.Entries.{end_low}
use Rattle.pm_build.proofs.Keeping.{IsAdded, added, too_many}
use Rattle.pm_build.proofs.builder.ArchiveBuilder.add_ahead.Goals as goal

pub add_tile-requires-clause-end : goal.add_tile-requires-clause-end
add_tile-requires-clause-end c =
    let inside = c.self.inside in
    omega (
      arith,
      views_end inside.contents.index.contents inside.runs.items,
      end_low (tiles_kept inside) (run_views inside.contents.index.contents inside.runs.items) c.self.invariant.tiles c.self.invariant.longest,
    )

pub returns-in-Err-clause-many : goal.returns-in-Err-clause-many
returns-in-Err-clause-many c =
    let id = c.args.id in
    let inside = c.self.inside in
    let test = too_many inside.contents.index inside.runs.items inside.addressed (id, inside.contents.ahead) c.self.invariant in (
      λ told. subst (λ (v : BuilderView). AreTooMany (v.tiles ++ (id, v.ahead) ∷ [])) c.self.view_is (test.0 (c.in-Err.ensures.many.0 told)),
      λ many. c.in-Err.ensures.many.1 (test.1 (subst (λ (v : BuilderView). AreTooMany (v.tiles ++ (id, v.ahead) ∷ [])) (sym c.self.view_is) many)),
    )

pub returns-in-Err-clause-memory : goal.returns-in-Err-clause-memory
returns-in-Err-clause-memory c told =
    let inside = c.self.inside in
    subst (λ (v : BuilderView). BeginsRun v.tiles (c.args.id, v.ahead)) c.self.view_is
    (run_views inside.contents.index.contents inside.runs.items, c.self.invariant.longest, c.in-Err.ensures.memory told)

pub overflow_add-self : goal.overflow_add-self
overflow_add-self c = omega (arith, c.self.invariant.counted, tiles_room (tiles_kept c.self.inside) c.self.invariant.tiles)

abbrev view_with : List ℕ → List Tile → BuilderView
view_with ahead tiles = record { tiles = tiles; ahead = ahead }

is_added : (c : goal.After-self-1)
    → IsAdded c.self.inside.contents.index c.self.inside.runs.items (c.args.id, c.self.inside.contents.ahead) c.add_tile.new.contents.index
    c.add_tile.new.runs.items (c.self.inside.addressed + 1)
is_added c =
    let t : Tile = (c.args.id, c.self.inside.contents.ahead) in
    let inside = c.self.inside in
    added inside.contents.index c.add_tile.new.contents.index inside.runs.items c.add_tile.new.runs.items inside.addressed t c.self.invariant
    (subst (λ (v : BuilderView). CanAdd v.tiles (c.args.id, v.ahead)) (sym c.self.view_is) c.requires) c.in-Ok.ensures.added c.in-Ok.ensures.contents
    c.in-Ok.ensures.firsts c.in-Ok.ensures.places c.in-Ok.ensures.few

pub invariant_of-self-2 : goal.invariant_of-self-2
invariant_of-self-2 c = (is_added c).kept

pub returns-clause-added : goal.returns-clause-added
returns-clause-added c =
    let now = c.args.self.now in
    let tiles = (is_added c).tiles_are ∙ ap (λ (v : BuilderView). v.tiles ++ (c.args.id, v.ahead) ∷ []) c.self.view_is in
    ap (view_with c.add_tile.new.contents.ahead) tiles ∙ ap (λ (xs : List ℕ). view_with xs (now.tiles ++ (c.args.id, now.ahead) ∷ [])) c.in-Ok.ensures.ahead

pub returns-clause-few : goal.returns-clause-few
returns-clause-few c = (is_added c).few

pub returns-clause-many : goal.returns-clause-many
returns-clause-many c =
    let id = c.args.id in
    let inside = c.self.inside in
    let test = too_many inside.contents.index inside.runs.items inside.addressed (id, inside.contents.ahead) c.self.invariant in (
      λ told. subst (λ (v : BuilderView). AreTooMany (v.tiles ++ (id, v.ahead) ∷ [])) c.self.view_is (test.0 (c.in-Ok.ensures.many.0 told)),
      λ many. c.in-Ok.ensures.many.1 (test.1 (subst (λ (v : BuilderView). AreTooMany (v.tiles ++ (id, v.ahead) ∷ [])) (sym c.self.view_is) many)),
    )
