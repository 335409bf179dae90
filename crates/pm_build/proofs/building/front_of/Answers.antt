use Rattle.std.proofs.Common.{ℕ, ◌*◌, length, sym, ap, ◌∙◌, arith}
use Rattle.std.specs.List.{concat}
use Rattle.pm_build.specs.declared.header.Counts.{Counts}
use Rattle.pm_build.specs.Joined.{run_views}
use Rattle.pm_build.specs.Laid.{header_for, lengths_of}
use Rattle.pm_build.specs.Runs.{tiles_in}
use Rattle.pm_build.proofs.Archive.{archive_joined, laid_out_joined, long_joined, size_joined}
use Rattle.pm_build.proofs.Tiles.{have_ends, contents_fit}
use Rattle.pm_build.proofs.building.front_of.Goals as goal

pub write_directories-requires-clause-ends : goal.write_directories-requires-clause-ends
write_directories-requires-clause-ends c =
    let placed = c.requires.placed in
    let entries = c.args.entries.now in
    let cs = c.args.contents.now.contents in
    let fit = contents_fit (tiles_in (run_views cs c.args.runs.now)) entries cs placed c.requires.few in
    have_ends (concat cs) placed.runs entries (omega arith) placed.named placed.each

pub returns-clause-archive : goal.returns-clause-archive
returns-clause-archive c =
    let d = c.in_ok-directories.directories in
    let cs = c.args.contents.now.contents in
    let ts = tiles_in (run_views cs c.args.runs.now) in
    let (low, high, zooms, header) = c.header_for_runs-header.ensures in
    let lengths = lengths_of d.root.items c.args.metadata.now d.leaves.items (concat cs) in
    let counted = ap (λ (n : ℕ). let k : Counts = record { addressed = length ts; entries = n; contents = length cs } in header_for lengths k low high)
    (sym c.requires.count) in
    archive_joined c.joined.result d.root.items c.args.metadata.now d.leaves.items ts c.args.entries.now cs c.header_for_runs-header.result low high
    (header ∙ counted) zooms c.requires.tiles.0 c.requires.placed c.in_ok-directories.ensures.directories c.in_ok-directories.ensures.root
    c.requires.metadata c.joined.ensures

pub returns-clause-size : goal.returns-clause-size
returns-clause-size c =
    let d = c.in_ok-directories.directories in
    size_joined c.joined.result d.root.items c.args.metadata.now d.leaves.items c.header_for_runs-header.result (64 * length c.args.entries.now)
    c.in_ok-directories.ensures.size c.joined.ensures

pub returns-clause-header : goal.returns-clause-header
returns-clause-header c =
    let d = c.in_ok-directories.directories in
    let cs = c.args.contents.now.contents in
    let ts = tiles_in (run_views cs c.args.runs.now) in
    let (low, high, zooms, header) = c.header_for_runs-header.ensures in
    let lengths = lengths_of d.root.items c.args.metadata.now d.leaves.items (concat cs) in
    let counted = ap (λ (n : ℕ). let k : Counts = record { addressed = length ts; entries = n; contents = length cs } in header_for lengths k low high)
    (sym c.requires.count) in
    laid_out_joined c.joined.result d.root.items c.args.metadata.now d.leaves.items ts c.args.entries.now cs c.header_for_runs-header.result low high
    (header ∙ counted) zooms c.requires.placed c.joined.ensures

pub returns-clause-least : goal.returns-clause-least
returns-clause-least c =
    let d = c.in_ok-directories.directories in
    long_joined c.joined.result d.root.items c.args.metadata.now d.leaves.items c.header_for_runs-header.result c.joined.ensures
