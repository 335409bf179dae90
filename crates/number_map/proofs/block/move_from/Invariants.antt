use Rattle.std.proofs.Common.{◌≡◌, ◌+◌, ◌≤◌, ◌++◌}
use Rattle.std.specs.Prelude.{vec_len, vec_capacity}
use mathlib.Core.List.{reverse}
use Rattle.number_map.proofs.block.move_from.Given as goal

-- the entries moved so far are the last ones, backwards
abbrev pub invariant-loop-entries : goal.invariant-loop-entries
invariant-loop-entries g l =
    (l.entries.items ++ reverse l.end.items ≡ l.initial.entries.items) × (l.at ≤ vec_len l.entries)
    × (vec_len l.entries + vec_len l.end ≡ vec_len l.initial.entries) × (vec_capacity l.entries ≡ vec_capacity l.initial.entries)
    × (vec_capacity l.initial.end ≤ vec_capacity l.end)

abbrev pub decreases-loop-entries : goal.decreases-loop-entries
decreases-loop-entries g l = vec_len l.entries
