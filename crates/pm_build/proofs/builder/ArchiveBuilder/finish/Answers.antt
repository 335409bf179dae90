use Rattle.std.proofs.Common.{◌++◌, ◌+◌, ◌*◌, ◌≤◌, ℕ, List, length, sym, ap, subst, ◌∙◌, arith}
use Rattle.std.specs.List.{concat}
use Rattle.std.proofs.lemmas.List.{length-append}
use Rattle.pm_build.specs.Building.{BuilderView}
use Rattle.pm_build.specs.Bounded.{IsSize}
use Rattle.pm_build.specs.Built.{tile_content}
use Rattle.pm_build.specs.Different.{contents_of}
use Rattle.pm_build.specs.Indexed.{IndexView}
use Rattle.pm_build.specs.Kept.{tiles_with}
use Rattle.pm_build.specs.Laid.{AreLaidOut}
use Rattle.pm_build.specs.Tiles.{Tile}
use Rattle.pm_build.specs.Vector.{IsVectorArchive}
use Rattle.pm_build.proofs.Keeping.{size_kept}
use Rattle.pm_build.proofs.builder.ArchiveBuilder.finish.Goals as goal

pub returns-clause-archive : goal.returns-clause-archive
returns-clause-archive c =
    let metadata = c.args.metadata.now in
    let front = c.in_ok-front.front.items in
    let runs = c.self.inside.runs.items in
    let made = subst (λ (v : IndexView). IsVectorArchive (front ++ concat v.contents) metadata (tile_content (tiles_with v runs))) c.index.ensures
    (rw c.deref.ensures.value at c.in_ok-front.ensures.archive) in
    subst (λ (bs : List ℕ). IsVectorArchive (front ++ bs) metadata (tile_content c.args.self.tiles)) (sym c.into_bytes.ensures)
    (subst (λ (ts : List Tile). IsVectorArchive (front ++ concat c.self.inside.contents.index.contents) metadata (tile_content ts))
    (ap (λ (v : BuilderView). v.tiles) c.self.view_is) made)

pub returns-clause-header : goal.returns-clause-header
returns-clause-header c =
    let metadata = c.args.metadata.now in
    let front = c.in_ok-front.front.items in
    let runs = c.self.inside.runs.items in
    let laid = subst (λ (v : IndexView). AreLaidOut (front ++ concat v.contents) (tiles_with v runs) metadata) c.index.ensures
    (rw c.deref.ensures.value at c.in_ok-front.ensures.header) in
    subst (λ (bs : List ℕ). AreLaidOut (front ++ bs) c.args.self.tiles metadata) (sym c.into_bytes.ensures)
    (subst (λ (ts : List Tile). AreLaidOut (front ++ concat c.self.inside.contents.index.contents) ts metadata)
    (ap (λ (v : BuilderView). v.tiles) c.self.view_is) laid)

pub returns-clause-size : goal.returns-clause-size
returns-clause-size c =
    let inside = c.self.inside in
    let front = c.in_ok-front.front.items in
    let metadata = c.args.metadata.now in
    let size = rw c.deref.ensures.value at c.in_ok-front.ensures.size in
    let stored = length (concat inside.contents.index.contents) in
    let low : length (front ++ c.into_bytes.result.items) ≤ 127 + length metadata + 64 * length inside.runs.items + stored =
    omega (arith, size, length-append front c.into_bytes.result.items, ap (λ (bs : List ℕ). length bs) c.into_bytes.ensures) in
    subst (λ (ts : List Tile). IsSize ts metadata (length (front ++ c.into_bytes.result.items))) (ap (λ (v : BuilderView). v.tiles) c.self.view_is)
    (size_kept inside.contents.index inside.runs.items inside.addressed metadata _ c.self.invariant low)

pub returns-clause-contents : goal.returns-clause-contents
returns-clause-contents c =
    c.into_bytes.ensures
    ∙ ap (λ (cs : List (List ℕ)). concat cs)
    (c.self.invariant.contents_are ∙ ap (λ (v : BuilderView). contents_of v.tiles) c.self.view_is)

pub returns-clause-least : goal.returns-clause-least
returns-clause-least c =
    let bytes = returns-clause-contents c in
    omega (
      arith,
      c.in_ok-front.ensures.least,
      length-append c.in_ok-front.front.items c.into_bytes.result.items,
      ap (λ (bs : List ℕ). length bs) bytes,
    )
