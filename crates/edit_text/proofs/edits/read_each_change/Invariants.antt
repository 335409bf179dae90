use Rattle.std.proofs.Common.{◌≡◌, ◌-◌, [], map}
use Rattle.feature_model.specs.Data.{change_data}
use Rattle.edit_text.specs.Reading.{many_at, change_at}
use Rattle.edit_text.proofs.edits.read_each_change.Given as goal

-- those so far, and those that are left
abbrev pub invariant-loop : goal.invariant-loop
invariant-loop l = many_at change_at (l.count - l.counter) (map change_data l.changes.items) l.rest ≡ many_at change_at l.count [] l.bytes
