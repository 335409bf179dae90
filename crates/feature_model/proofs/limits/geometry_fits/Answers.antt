use Rattle.std.proofs.Common.{◌≡◌, length, map, sym, subst, IsTrue, rules}
use Rattle.std.proofs.lemmas.List.{length-map}
use Rattle.feature_model.specs.Limits.{IsCount}
use Rattle.feature_model.proofs.Tests.{and_then, and_else}
use Rattle.feature_model.proofs.limits.geometry_fits.Goals as goal

pub returns-in-Points : goal.returns-in-Points
returns-in-Points c =
    let len : c.len.result ≡ length c.in-Points.points.items = search rules in
    rw c.in-Points.is (rw len at c.count_fits.ensures)

pub returns-then-count_fits : goal.returns-then-count_fits
returns-then-count_fits c =
    let len : c.len-in-Lines.result ≡ length c.in-Lines.lines.items = search rules in
    let count = rw len at (c.count_fits-in-Lines.ensures.0 c.if-count_fits.true) in
    rw c.in-Lines.is (and_then c.lines_fit.result (subst (IsCount 1) (sym (length-map c.in-Lines.lines.items (λ l. l.items))) count)
    (rw c.deref.ensures.value at c.lines_fit.ensures))

pub returns-else-count_fits : goal.returns-else-count_fits
returns-else-count_fits c =
    let len : c.len-in-Lines.result ≡ length c.in-Lines.lines.items = search rules in
    let is = c.count_fits-in-Lines.result in
    let says = rw len at c.count_fits-in-Lines.ensures in
    let same = length-map c.in-Lines.lines.items (λ l. l.items) in
    rw c.in-Lines.is (and_else is (subst (λ n. (IsTrue is → IsCount 1 n) × (IsCount 1 n → IsTrue is)) (sym same) says) c.if-count_fits.false)

pub returns-in-Polygons : goal.returns-in-Polygons
returns-in-Polygons c = rw c.in-Polygons.is (rw c.deref-in-Polygons.ensures.value at c.polygons_fit.ensures)
