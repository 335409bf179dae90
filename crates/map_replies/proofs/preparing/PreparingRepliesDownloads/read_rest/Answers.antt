use Rattle.std.proofs.Common.{refl}
use Rattle.map_replies.proofs.preparing.PreparingRepliesDownloads.read_rest.Goals as goal

pub returns-clause-read : goal.returns-clause-read
returns-clause-read g c = (c.read_rest.ensures.read, refl)
