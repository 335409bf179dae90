use Rattle.std.proofs.Common.{sym, ap, ◌∙◌, ◌+◌, List, ℕ, [], ◌∷◌, arith, drop}
use Rattle.http_requests.specs.Fields.{members}
use Rattle.http_requests.proofs.FieldLemmas.{members_more, members_last, rest_is}
use Rattle.http_requests.proofs.fields.split_member.Goals as goal

pub returns-then-at-list-clause-members : goal.returns-then-at-list-clause-members
returns-then-at-list-clause-members c =
    let found = c.position_or_len-at in
    members_last c.args.list.now found.result found.ensures.index c.if-at-list.true
    ∙ ap (λ (member : List ℕ). member ∷ []) (sym c.trim_ows-member.ensures)

pub returns-clause-members : goal.returns-clause-members
returns-clause-members c =
    let list = c.args.list.now in
    let found = c.position_or_len-at in
    let within = found.ensures.within in
    members_more list found.result found.ensures.index (omega (arith, c.if-at-list.false))
    ∙ ap (λ (member : List ℕ). member ∷ members (drop (found.result + 1) list)) (sym c.trim_ows-member.ensures)
    ∙ ap (λ (rest : List ℕ). c.trim_ows-member.result.now ∷ members rest) (sym (rest_is (found.result + 1) list))
