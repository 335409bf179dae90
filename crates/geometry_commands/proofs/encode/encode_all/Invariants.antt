use Rattle.std.proofs.Common.{◌≡◌, ◌++◌, drop, map}
use Rattle.std.specs.List.{AllByRecursion}
use Rattle.geometry_commands.specs.Commands.{origin}
use Rattle.geometry_commands.specs.Encodable.{CanSpellLines}
use Rattle.geometry_commands.specs.Shapes.{lines_spelled, IsLine}
use Rattle.geometry_commands.proofs.encode.encode_all.Given as goal

-- what is written, and the way along the lines that are left
abbrev pub invariant-loop-line : goal.invariant-loop-line
invariant-loop-line l = record {
  spelled : l.out.items ++ lines_spelled l.closed l.at (map (λ p. p.items) (drop l.line-index l.lines))
      ≡ lines_spelled l.closed origin (map (λ p. p.items) l.lines);
  can : CanSpellLines l.closed l.at (map (λ p. p.items) (drop l.line-index l.lines));
  whole : AllByRecursion (IsLine l.closed) (map (λ p. p.items) (drop l.line-index l.lines)) → AllByRecursion (IsLine l.closed) (map (λ p. p.items) l.lines);
}
