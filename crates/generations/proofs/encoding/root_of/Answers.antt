use Rattle.std.proofs.Common.{◌≡◌, ◌↔◌, true, sym, ◌∙◌}
use Rattle.std.proofs.lemmas.Bool.{iff_false}
use Rattle.std.proofs.lemmas.Bool.Decides.{Decides-eqb}
use Rattle.std.proofs.lemmas.Slice.Eq.{slice_eq-Decides}
use Rattle.generations.proofs.Roots.{root_there, no_root}
use Rattle.generations.proofs.encoding.root_of.Goals as goal

pub returns-then-eq : goal.returns-then-eq
returns-then-eq c =
    let decides : (c.eq.result ≡ true) ↔ (c.root_bytes-bytes.result ≡ c.args.sector.now) = slice_eq-Decides Decides-eqb _ _ _ c.eq.ensures in
    root_there c.args.sector.now c.numbers_of-root.result c.numbers_of-root.ensures.numbers c.numbers_of-root.ensures.fit
    (sym (decides.0 c.if-eq.true) ∙ c.root_bytes-bytes.ensures)

pub returns-else-eq : goal.returns-else-eq
returns-else-eq c =
    let decides : (c.eq.result ≡ true) ↔ (c.root_bytes-bytes.result ≡ c.args.sector.now) = slice_eq-Decides Decides-eqb _ _ _ c.eq.ensures in
    no_root c.args.sector.now c.numbers_of-root.result c.numbers_of-root.ensures.numbers
    (λ is. iff_false decides c.if-eq.false (c.root_bytes-bytes.ensures ∙ sym is))
