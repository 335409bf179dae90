use Rattle.std.proofs.Common.{ℕ, List, length, ap, arith, length-drop}
use Rattle.std.proofs.lemmas.Bool.{eq-eqb, eqb-true}
use Rattle.std.proofs.lemmas.List.{drop_all}
use Rattle.mvt_write.specs.Entries.{entries_of}
use Rattle.mvt_write.proofs.ending.PoolRest.is_over.Goals as goal

pub returns : goal.returns
returns c =
    let rest = c.args.self.now in
    let entries = entries_of rest.entries in
    let count = c.len.result in (
      λ same. drop_all rest.done entries (omega (arith, eqb-true rest.done count same, c.len.ensures)),
      λ none. eq-eqb rest.done count
          (omega (arith, ap (λ (es : List (List ℕ)). length es) none, length-drop rest.done entries, rest.within, c.len.ensures)),
    )
