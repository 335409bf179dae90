use Rattle.std.proofs.Common.{◌∙◌, sym, arith}
use Rattle.http_serve.proofs.AnswerLemmas.{rest_left, rest_none}
use Rattle.http_serve.proofs.answers.rest_of.Goals as goal

pub returns-in-Parts-clause-left : goal.returns-in-Parts-clause-left
returns-in-Parts-clause-left c =
    rest_left c.rest_from.result _ _ c.args.bare c.args.reply.now c.in-Parts.first (sym c.sends_content.ensures ∙ c.if-not-sends_content.false)
    c.in-Parts.is (omega (arith, c.len.ensures, c.in-Parts.first.ok.0)) c.rest_from.ensures.left

pub returns-in-Parts-clause-none : goal.returns-in-Parts-clause-none
returns-in-Parts-clause-none c = λ none.
    rest_none _ _ c.args.bare c.args.reply.now c.in-Parts.first (sym c.sends_content.ensures ∙ c.if-not-sends_content.false)
    c.in-Parts.is (omega (arith, c.len.ensures, c.in-Parts.first.ok.0)) (c.rest_from.ensures.none none)
