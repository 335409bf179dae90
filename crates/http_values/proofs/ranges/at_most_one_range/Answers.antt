use Rattle.http_values.proofs.Ends.{same_range}
use Rattle.http_values.proofs.ranges.at_most_one_range.Goals as goal

pub returns : goal.returns
returns c = same_range
