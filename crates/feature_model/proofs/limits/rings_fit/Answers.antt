use Rattle.std.proofs.Common.{length, map, sym, subst, IsTrue}
use Rattle.std.proofs.lemmas.List.{length-map}
use Rattle.feature_model.specs.Limits.{IsCount}
use Rattle.feature_model.proofs.Tests.{and_then, and_else}
use Rattle.feature_model.proofs.limits.rings_fit.Goals as goal

pub returns-then-count_fits : goal.returns-then-count_fits
returns-then-count_fits c =
    let count = subst (IsCount 1) (sym (length-map c.args.rings.now (λ r. r.items))) (c.count_fits.ensures.0 c.if-count_fits.true) in
    and_then c.lines_fit.result count c.lines_fit.ensures

pub returns-else-count_fits : goal.returns-else-count_fits
returns-else-count_fits c =
    let is = c.count_fits.result in
    let same = length-map c.args.rings.now (λ r. r.items) in
    and_else is (subst (λ n. (IsTrue is → IsCount 1 n) × (IsCount 1 n → IsTrue is)) (sym same) c.count_fits.ensures) c.if-count_fits.false
