use Rattle.std.proofs.Common.{◌∙◌}
use Rattle.pm_verify.proofs.CountedLaws.{contents_counted}
use Rattle.pm_verify.proofs.counting.contents.Goals as goal

pub returns : goal.returns
returns c = c.len.ensures.len ∙ contents_counted c.args.tiles.now c.in_ok-spans.spans c.in_ok-spans.ensures
