use Rattle.std.proofs.Common.{◌≡◌, ◌≤◌, length}
use Rattle.std.specs.List.{AllWithin}
use Rattle.pm_archive.proofs.leaves.Leaves.find.Given as goal

-- there, and none from there on is of the entry
abbrev pub invariant-loop-at : goal.invariant-loop-at
invariant-loop-at l = record {
  there : l.at ≤ length l.self-inside.all.items;
  none : AllWithin (λ leaf. ¬ (leaf.entry ≡ l.entry)) l.self-inside.all.items l.at (length l.self-inside.all.items);
}

abbrev pub decreases-loop-at : goal.decreases-loop-at
decreases-loop-at l = l.at
