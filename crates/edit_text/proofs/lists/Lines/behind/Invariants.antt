use Rattle.std.proofs.Common.{◌≡◌, ◌-◌}
use Rattle.edit_text.specs.Trusted.{each_in, line_in}
use Rattle.edit_text.proofs.lists.Lines.behind.Given as goal

-- the bytes after those that are left
abbrev pub invariant-loop : goal.invariant-loop
invariant-loop l = (each_in line_in (l.count - l.counter) l.rest).1 ≡ (each_in line_in l.count l.bytes).1
