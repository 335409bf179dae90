use Rattle.std.proofs.Common.{◌≡◌, ◌-◌}
use Rattle.edit_text.specs.Trusted.{each_in, lines_in}
use Rattle.edit_text.proofs.lists.Polygons.behind.Given as goal

-- the bytes after those that are left
abbrev pub invariant-loop : goal.invariant-loop
invariant-loop l = (each_in lines_in (l.count - l.counter) l.rest).1 ≡ (each_in lines_in l.count l.bytes).1
