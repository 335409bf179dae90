use Rattle.std.proofs.Common.{ap, ◌∙◌, List, ℕ, [], Option, unwrap_or, length, ◌≤◌, subst, sym}
use Rattle.http.specs.StatusCode.{reason_phrase}
use Rattle.http_values.specs.Phrases.{phrase_of}
use Rattle.http_values.proofs.Reasons.{is_short}
use Rattle.http_values.proofs.status.Status.phrase.Goals as goal

pub returns-in-Some-clause-value : goal.returns-in-Some-clause-value
unfolding phrase_of
returns-in-Some-clause-value c =
    ap (λ (o : Option (List ℕ)). unwrap_or o []) (c.in-Some.ensures.value ∙ ap reason_phrase c.to_http.ensures)

pub returns-in-Some-clause-short : goal.returns-in-Some-clause-short
unfolding phrase_of
returns-in-Some-clause-short c =
    let same = ap (λ (o : Option (List ℕ)). unwrap_or o []) (c.in-Some.ensures.value ∙ ap reason_phrase c.to_http.ensures) in
    subst (λ (l : List ℕ). length l ≤ 32) (sym same) (is_short c.args.self)

pub returns-in-None-clause-value : goal.returns-in-None-clause-value
unfolding phrase_of
returns-in-None-clause-value c =
    ap (λ (o : Option (List ℕ)). unwrap_or o []) (c.in-None.ensures.value ∙ ap reason_phrase c.to_http.ensures)
