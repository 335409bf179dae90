use Rattle.map_replies.specs.Confirming.{standby_end}
use Rattle.map_replies.proofs.Pushed.{six_pushed}
use Rattle.map_replies.proofs.confirming.push_end.Goals as goal

pub returns : goal.returns
unfolding standby_end
returns c = record {
  items =
      rw (
        c.push_text-4.ensures.items,
        c.push_heard.ensures.items,
        c.push_text-3.ensures.items,
        c.push_number.ensures.items,
        c.push_text-2.ensures.items,
        c.push_text.ensures.items,
      ) (six_pushed c.args.out.now.items _ _ _ _ _ _);
}
