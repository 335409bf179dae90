use Rattle.std.proofs.Common.{◌≡◌, ℕ, ◌+◌, ◌*◌, ◌<◌, List, drop, slice_get}
use Rattle.byte_source.specs.Source.{Keeps}
use Rattle.pm_archive.specs.Entries.{LiesInside}
use Rattle.pm_archive.specs.Listing.{behind}
use Rattle.pm_archive.specs.Reading.{each_at, lists_at}
use Rattle.pm_archive.proofs.listing.+listing.Given as goal

abbrev pub decreases-push_each : goal.decreases-push_each
decreases-push_each g l = 2 * l.more + 1

abbrev pub decreases-push_listed : goal.decreases-push_listed
decreases-push_listed g l = 2 * l.more

-- the source is as it was, what the other entries list comes after what there is now, and the first one that was listed is inside
abbrev pub invariant-push_each-loop-i : goal.invariant-push_each-loop-i
invariant-push_each-loop-i g l = record {
  source : Keeps g.B.Bytes.count g.B.Bytes.holds g.B.Bytes.unchanged l.initial.source l.source;
  listed : (bytes : List ℕ) → g.B.Bytes.holds l.source bytes
      → behind l.initial.tiles.items (each_at (lists_at bytes l.header l.more) l.bound l.entries)
      ≡ behind l.tiles.items (each_at (lists_at bytes l.header l.more) l.bound (drop l.i l.entries));
  lies : 0 < l.i → LiesInside l.header (slice_get l.entries 0);
}
