use Rattle.std.proofs.Common.{◌≡◌}
use Rattle.pm_build.specs.Different.{contents_of}
use Rattle.pm_build.specs.Indexed.{IsNextOf, up_to}
use Rattle.area_content.proofs.counting.place_of_equal.Given as goal

abbrev pub invariant-loop-next : goal.invariant-loop-next
invariant-loop-next l = record {
  next : IsNextOf (contents_of l.counter) l.content l.next;
  same : l.tiles ≡ l.initial.tiles;
}

abbrev pub decreases-loop-next : goal.decreases-loop-next
decreases-loop-next l = up_to l.next
