use Rattle.std.proofs.Common.{append_assoc}
use Rattle.map_replies.specs.Words.{draft_part}
use Rattle.map_replies.proofs.telling.push_draft_part.Goals as goal

pub returns-clause-items : goal.returns-clause-items
unfolding draft_part
returns-clause-items c = rw (c.push_draft.ensures.items, c.push_text.ensures.items) (append_assoc c.args.out.now.items _ _)
