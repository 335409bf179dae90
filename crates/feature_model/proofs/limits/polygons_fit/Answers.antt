use Rattle.std.proofs.Common.{length, map, sym, subst, IsTrue}
use Rattle.std.proofs.lemmas.List.{length-map}
use Rattle.feature_model.specs.Limits.{IsCount}
use Rattle.feature_model.proofs.Tests.{and_then, and_else}
use Rattle.feature_model.proofs.limits.polygons_fit.Goals as goal

pub returns-then-count_fits : goal.returns-then-count_fits
returns-then-count_fits c =
    let count = subst (IsCount 1) (sym (length-map c.args.polygons.now (λ p. map (λ r. r.items) p.items))) (c.count_fits.ensures.0 c.if-count_fits.true) in
    and_then c.each_polygon_fits.result count c.each_polygon_fits.ensures

pub returns-else-count_fits : goal.returns-else-count_fits
returns-else-count_fits c =
    let is = c.count_fits.result in
    let same = length-map c.args.polygons.now (λ p. map (λ r. r.items) p.items) in
    and_else is (subst (λ n. (IsTrue is → IsCount 1 n) × (IsCount 1 n → IsTrue is)) (sym same) c.count_fits.ensures) c.if-count_fits.false
