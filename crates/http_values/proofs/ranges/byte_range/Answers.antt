use Rattle.http_values.proofs.Ends.{behind_unit, asks}
use Rattle.http_values.proofs.ranges.byte_range.Goals as goal

pub returns-in-Some : goal.returns-in-Some
returns-in-Some c = let text = c.in-Some.ensures.cases in
    asks c.args.value.now c.in-Some.text.now c.range_in.result (behind_unit c.args.value.now c.in-Some.text.now text.0 text.1) c.range_in.ensures
