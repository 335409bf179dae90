use Rattle.map_replies.specs.Words.{disk_part}
use Rattle.map_replies.proofs.Pushed.{six_pushed}
use Rattle.map_replies.proofs.telling.push_disk_part.Goals as goal

pub returns-clause-items : goal.returns-clause-items
unfolding disk_part
returns-clause-items c =
    rw (
      c.push_number-3.ensures.items,
      c.push_text-3.ensures.items,
      c.push_number-2.ensures.items,
      c.push_text-2.ensures.items,
      c.push_number.ensures.items,
      c.push_text.ensures.items,
    ) (six_pushed c.args.out.now.items _ _ _ _ _ _)
