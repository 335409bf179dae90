use Rattle.std.proofs.Common.{◌<◌, ℕ, List, length, get_or, ap, arith}
use Rattle.pm_build.specs.Counted.{tiles_counted}
use Rattle.pm_build.specs.Different.{contents_of}
use Rattle.pm_build.specs.Tiles.{Tile}
use Rattle.pm_build.proofs.CounterSteps.{first_with}
use Rattle.pm_build.proofs.FirstTiles.{first_at}
use Rattle.pm_build.proofs.counter.ArchiveCounter.first_with.Goals as goal

pub returns : goal.returns
returns c =
    let inside = c.self.inside in
    let kept = c.self.invariant.kept in
    let within : c.args.place < length inside.contents.contents =
    omega (
      arith,
      c.requires,
      ap (λ (cs : List (List ℕ)). length cs) kept.contents_are,
      ap (λ (ts : List Tile). length (contents_of ts)) c.self.view_is,
    ) in
    first_with inside.contents inside.runs.items inside.addressed kept c.args.self.now c.args.place c.stored_at.result.first
    (get_or inside.contents.firsts c.args.place 0) c.self.view_is c.requires
    (first_at (tiles_counted inside) inside.contents c.args.place kept.firsts within) c.stored_at.ensures.first
