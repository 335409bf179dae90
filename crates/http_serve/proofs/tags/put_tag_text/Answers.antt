use Rattle.http_serve.specs.Tags.{tag_text}
use Rattle.http_serve.proofs.ReplyLemmas.{four_added}
use Rattle.http_serve.proofs.tags.put_tag_text.Goals as goal

pub returns-clause-items : goal.returns-clause-items
unfolding tag_text
returns-clause-items c =
    four_added c.args.out.now.items _ _ _ _ _ _ _ _
    (four_added c.args.out.now.items _ _ _ _ _ _ _ _ c.push_text.ensures.items c.push_number.ensures.items c.push_text-2.ensures.items
    c.push_number-2.ensures.items)
    c.push_text-3.ensures.items c.push_number-3.ensures.items c.push_text-4.ensures.items
