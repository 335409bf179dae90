use Rattle.std.proofs.Common.{◌≡◌, ◌+◌, ◌*◌, ◌≤◌, length, map, take}
use Rattle.std.specs.List.{flat_map}
use Rattle.feature_model.specs.Lengths.{lines_most}
use Rattle.feature_model.specs.Spelled.{spelled_list, spelled_line}
use Rattle.feature_model.proofs.lengths.polygons_len.Given as goal

abbrev pub invariant-loop-rings : goal.invariant-loop-rings
invariant-loop-rings l = (l.len ≡ 2 + length (flat_map (spelled_list spelled_line) (map (λ p. map (λ r. r.items) p.items) (take l.rings-index l.polygons))))
    × (l.len ≤ 2 + lines_most * l.rings-index)
