use Rattle.std.proofs.Common.{◌≡◌, List, ap, subst, sym, ◌∙◌, arith}
use Rattle.pm_build.specs.Building.{BuilderView, CanAdd}
use Rattle.pm_build.specs.Joined.{run_views, runs_end, last_end}
use Rattle.pm_build.specs.Runs.{tiles_in}
use Rattle.pm_build.specs.Tiles.{Tile}
use Rattle.pm_build.specs.declared.run.Run.{Run}
use Rattle.pm_build.proofs.Adding.{can_add, views_end}
use Rattle.pm_build.proofs.Entries.{end_low}
use Rattle.pm_build.proofs.builder.ArchiveBuilder.can_add.Goals as goal

pub end_of-requires : goal.end_of-requires
end_of-requires c =
    let rs = run_views c.self.inside.contents.index.contents c.self.inside.runs.items in
    omega (
      arith,
      end_low (tiles_in rs) rs c.self.invariant.tiles c.self.invariant.longest,
      views_end c.self.inside.contents.index.contents c.self.inside.runs.items,
      ap (λ (runs : List Run). last_end runs) c.deref.ensures.value,
    )

pub returns : goal.returns
returns c =
    let rs = run_views c.self.inside.contents.index.contents c.self.inside.runs.items in
    let t : Tile = (c.args.id, c.args.content.now) in
    let end : c.end_of.result ≡ runs_end rs =
    c.end_of.ensures ∙ ap (λ (runs : List Run). last_end runs) c.deref.ensures.value
    ∙ sym (views_end c.self.inside.contents.index.contents c.self.inside.runs.items) in
    let test = can_add rs t c.self.invariant.tiles c.self.invariant.longest in (
      λ yes.
          let h = c.is_tile.ensures.0 yes in
          subst (λ (ts : List Tile). CanAdd ts t) (ap (λ (v : BuilderView). v.tiles) c.self.view_is) (test.0 (omega (arith, end, h.0), h.1)),
      λ can.
          let h = test.1 (subst (λ (ts : List Tile). CanAdd ts t) (sym (ap (λ (v : BuilderView). v.tiles) c.self.view_is)) can) in
          c.is_tile.ensures.1 (omega (arith, end, h.0), h.1),
    )
