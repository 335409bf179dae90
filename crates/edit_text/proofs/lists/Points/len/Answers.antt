use Rattle.edit_text.proofs.PointSteps.{points_len}
use Rattle.edit_text.proofs.lists.Points.len.Goals as goal

pub returns : goal.returns
returns c = points_len c.args.self.now.rest.now
