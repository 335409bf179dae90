use Rattle.map_replies.specs.Words.{broken_part}
use Rattle.map_replies.proofs.Pushed.{seven_pushed}
use Rattle.map_replies.proofs.telling.push_broken_part.Goals as goal

pub returns-clause-items : goal.returns-clause-items
unfolding broken_part
returns-clause-items c =
    rw (
      c.push_text-4.ensures.items,
      c.push_digest.ensures.items,
      c.push_text-3.ensures.items,
      c.push_number.ensures.items,
      c.push_text-2.ensures.items,
      c.push_truth.ensures.items,
      c.push_text.ensures.items,
    ) (seven_pushed c.args.out.now.items _ _ _ _ _ _ _)
