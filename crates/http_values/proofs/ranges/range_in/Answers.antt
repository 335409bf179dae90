use Rattle.std.proofs.Common.{sym, ◌∙◌, subst, ℕ, List, take, ◌+◌}
use Rattle.std.specs.Prelude.{MatchOption}
use Rattle.http_values.specs.Ranges.{AreAround}
use Rattle.http_values.proofs.Ends.{rest_is, ends_at, no_ends}
use Rattle.http_values.proofs.ranges.range_in.Goals as goal

pub returns-in-Some : goal.returns-in-Some
returns-in-Some c =
    let text = c.args.text.now in
    let dash = c.in-Some.dash in
    ends_at text dash c.between.result (sym c.dash_in.ensures ∙ c.in-Some.is)
    (subst (λ (t : List ℕ). MatchOption c.between.result ((first last : ℕ) → ¬ (AreAround (take dash text) t first last))
    (λ range. AreAround (take dash text) t range.first range.last)) (rest_is text (dash + 1)) c.between.ensures)

pub returns-in-None : goal.returns-in-None
returns-in-None c = λ first last ends. no_ends c.args.text.now first last (sym c.dash_in.ensures ∙ c.in-None.is) ends
