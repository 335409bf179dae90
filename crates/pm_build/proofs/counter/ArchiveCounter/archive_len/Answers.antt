use Rattle.std.proofs.Common.{◌≡◌, ◌+◌, ◌*◌, ◌≤◌, ◌++◌, ℕ, List, length, ap, subst, arith}
use Rattle.std.specs.List.{concat}
use Rattle.std.proofs.lemmas.List.{length-append}
use Rattle.pm_build.specs.Bounded.{IsSize}
use Rattle.pm_build.specs.Built.{tile_content}
use Rattle.pm_build.specs.Different.{contents_of}
use Rattle.pm_build.specs.Laid.{AreLaidOut}
use Rattle.pm_build.specs.Tiles.{Tile}
use Rattle.pm_build.specs.Vector.{IsVectorArchive}
use Rattle.pm_build.proofs.CounterSteps.{bytes_low}
use Rattle.pm_build.proofs.Keeping.{size_kept}
use Rattle.pm_build.proofs.counter.ArchiveCounter.archive_len.Goals as goal

pub overflow_add-result : goal.overflow_add-result
overflow_add-result c =
    let inside = c.self.inside in
    omega (arith, c.len.ensures, c.total.ensures, c.in_ok-front.front.ok, bytes_low inside.contents inside.runs.items inside.addressed c.self.invariant.kept)

pub returns-clause-archive : goal.returns-clause-archive
returns-clause-archive c =
    let cs = c.self.inside.contents.contents in
    let front = c.in_ok-front.front.items in
    let metadata = c.args.metadata.now in
    let archive = front ++ concat cs in
    let long : c.len.result + c.total.result ≡ length archive =
    omega (arith, c.len.ensures, c.in_ok-front.front.ok, c.total.ensures, length-append front (concat cs)) in (
      archive,
      long,
      subst (λ (ts : List Tile). IsVectorArchive archive metadata (tile_content ts)) c.self.view_is (rw c.deref.ensures.value at c.in_ok-front.ensures.archive),
      subst (λ (ts : List Tile). AreLaidOut archive ts metadata) c.self.view_is (rw c.deref.ensures.value at c.in_ok-front.ensures.header),
    )

pub returns-clause-size : goal.returns-clause-size
returns-clause-size c =
    let inside = c.self.inside in
    let metadata = c.args.metadata.now in
    let size = rw c.deref.ensures.value at c.in_ok-front.ensures.size in
    let low : c.len.result + c.total.result ≤ 127 + length metadata + 64 * length inside.runs.items + length (concat inside.contents.contents) =
    omega (arith, size, c.len.ensures, c.in_ok-front.front.ok, c.total.ensures) in
    subst (λ (ts : List Tile). IsSize ts metadata (c.len.result + c.total.result)) c.self.view_is
    (size_kept inside.contents inside.runs.items inside.addressed metadata _ c.self.invariant.kept low)

pub returns-clause-least : goal.returns-clause-least
returns-clause-least c =
    omega (
      arith,
      c.in_ok-front.ensures.least,
      c.len.ensures,
      c.in_ok-front.front.ok,
      c.total.ensures,
      ap (λ (cs : List (List ℕ)). length (concat cs)) c.self.invariant.kept.contents_are,
      ap (λ (ts : List Tile). length (concat (contents_of ts))) c.self.view_is,
    )
