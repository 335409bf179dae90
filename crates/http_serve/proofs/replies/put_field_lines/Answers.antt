use Rattle.std.proofs.Common.{sym, ap, ◌∙◌, ◌++◌, ℕ}
use Rattle.http_serve.specs.Reply.{type_name, allow_name, length_line}
use Rattle.http_serve.proofs.ReplyLemmas.{two_added, five_added, first_added, others_added}
use Rattle.http_serve.proofs.replies.put_field_lines.Goals as goal

pub returns-clause-items : goal.returns-clause-items
unfolding type_name allow_name
returns-clause-items c =
    let length = c.put_length_line.ensures.items ∙ ap (λ (n : ℕ). c.put_word_line-3.new.out.items ++ length_line n) c.size.ensures in
    others_added _ _ _ _ _ (sym c.has_no_content.ensures ∙ c.if-has_no_content.false)
    (five_added c.args.out.now.items _ _ _ _ _ _ _ _ _ _ c.put_word_line-2.ensures.items c.put_range_line.ensures.items
    c.put_tag_lines-2.ensures.items c.put_word_line-3.ensures.items length)

pub returns-then-has_no_content-clause-items : goal.returns-then-has_no_content-clause-items
unfolding type_name allow_name
returns-then-has_no_content-clause-items c =
    first_added _ _ _ _ _ (sym c.has_no_content.ensures ∙ c.if-has_no_content.true)
    (two_added c.args.out.now.items _ _ _ _ c.put_tag_lines.ensures.items c.put_word_line.ensures.items)
