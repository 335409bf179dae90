use Rattle.map_replies.specs.Words.{making_text}
use Rattle.map_replies.proofs.Pushed.{seven_pushed}
use Rattle.map_replies.proofs.telling.push_making.Goals as goal

pub returns-clause-items : goal.returns-clause-items
unfolding making_text
returns-clause-items c =
    rw (
      c.push_text-4.ensures.items,
      c.push_number-3.ensures.items,
      c.push_text-3.ensures.items,
      c.push_number-2.ensures.items,
      c.push_text-2.ensures.items,
      c.push_number.ensures.items,
      c.push_text.ensures.items,
    ) (seven_pushed c.args.out.now.items _ _ _ _ _ _ _)
