use Rattle.std.proofs.Common.{◌==◌, List, ℕ, ap, ◌∙◌, rules, tests}
use Rattle.std.specs.List.{list_all}
use Rattle.std.proofs.lemmas.Iterator.Search.{all_from_yields_List}
use Rattle.std.proofs.lemmas.Iterator.Splits.{YieldsList-from_slice_split}
use Rattle.map_replies.specs.Digests.{part_agrees, parts_of}
use Rattle.map_replies.proofs.queries.agrees.Goals as goal

pub returns : goal.returns
returns c =
    all_from_yields_List (part_agrees c.digest_digits-digits.result) _ _ _ c.all.ensures.ran
    (YieldsList-from_slice_split _ (λ byte. byte == 38) c.args.query.now c.split.ensures.rest c.split.ensures.done c.split.ensures.closure
    (λ x b q k. search (rules, tests)))
    (λ x b q k. search (rules, tests))
    ∙ ap (λ (digits : List ℕ). list_all (part_agrees digits) (parts_of c.args.query.now)) c.digest_digits-digits.ensures
