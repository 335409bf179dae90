use Rattle.std.proofs.Common.{◌≡◌}
use Rattle.edit_text.specs.Views.{lines_view}
use Rattle.tile_cutter.specs.Covered.{all_of}
use Rattle.tile_cutter.specs.Widened.{bounds_after}
use Rattle.tile_cutter.proofs.text_box.widened_by_lines.Given as goal

-- the box so far, and of what is left
abbrev pub invariant-loop-line : goal.invariant-loop-line
invariant-loop-line l = bounds_after l.bounds (all_of (lines_view l.line-iterator)) ≡ bounds_after l.initial.bounds (all_of (lines_view l.lines))
