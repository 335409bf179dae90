use Rattle.std.proofs.Common.{◌≡◌, ℕ, List, length, ap, ◌∙◌, arith}
use Rattle.std.specs.List.{concat}
use Rattle.std.proofs.lemmas.List.{length-map}
use Rattle.pm_build.specs.Building.{BuilderView}
use Rattle.pm_build.specs.Different.{contents_of}
use Rattle.pm_build.specs.Indexed.{IndexView}
use Rattle.pm_build.specs.Joined.{run_view, run_views}
use Rattle.pm_build.specs.Kept.{tiles_kept}
use Rattle.pm_build.specs.Tiles.{Tile}
use Rattle.pm_build.proofs.Entries.{contents_low}
use Rattle.pm_build.proofs.builder.ArchiveBuilder.content_len.Goals as goal
use Rattle.pm_build.proofs.builder.ArchiveBuilder.content_len.Goals.{After-total}

-- the bytes of the contents of the tiles
total : (c : After-total) → c.total.result ≡ length (concat (contents_of (tiles_kept c.self.inside)))
total c =
    c.total.ensures ∙ ap (λ (v : IndexView). length (concat v.contents)) c.index.ensures
    ∙ ap (λ (cs : List (List ℕ)). length (concat cs)) c.self.invariant.contents_are

pub returns-clause-total : goal.returns-clause-total
returns-clause-total c = total c ∙ ap (λ (ts : List Tile). length (concat (contents_of ts))) (ap (λ (v : BuilderView). v.tiles) c.self.view_is)

pub returns-clause-bounded : goal.returns-clause-bounded
returns-clause-bounded c =
    let inside = c.self.inside in
    let rs = run_views inside.contents.index.contents inside.runs.items in
    omega (
      arith,
      total c,
      contents_low (tiles_kept inside) rs c.self.invariant.tiles c.self.invariant.longest
          (omega (arith, c.self.invariant.few, length-map inside.runs.items (run_view inside.contents.index.contents))),
    )
