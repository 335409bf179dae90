use Rattle.std.proofs.Common.{sym, ap, ◌∙◌, ◌++◌, List, ℕ, Option, option_map, Bor}
use Rattle.http_serve.specs.Reply.{word_line, line_end}
use Rattle.http_serve.proofs.ReplyLemmas.{three_added}
use Rattle.http_serve.proofs.replies.put_word_line.Goals as goal

pub returns-clause-items : goal.returns-clause-items
unfolding word_line
returns-clause-items c =
    let name = c.args.name.now in
    let word = c.in-Some.word.now in
    three_added c.args.out.now.items name word line_end _ _ _ c.push_text.ensures.items
    (c.push_text-2.ensures.items ∙ ap (λ (t : List ℕ). c.push_text.new.out.items ++ t) c.as_bytes.ensures.value) c.push_text-3.ensures.items
    ∙ ap (λ (o : Option (Bor (List ℕ))). c.args.out.now.items ++ word_line name (option_map (λ (k : Bor (List ℕ)). k.now) o)) (sym c.in-Some.is)
