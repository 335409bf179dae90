use Rattle.std.proofs.lemmas.Grind.{common_steps}
use Rattle.std.proofs.Common.{refl, sym, subst, map, arith}
use Rattle.std.proofs.lemmas.List.{length-map}
use Rattle.feature_model.specs.Data.{change_data}
use Rattle.feature_model.specs.Limits.{AreEnough, TextsFit}
use Rattle.feature_model.proofs.Changes.{all_allowed, all_fit, not_all_fit, first_edit_fault}
use Rattle.feature_model.proofs.Tests.{broken, refused}
use Rattle.feature_model.proofs.limits.check_batch.Goals as goal

pub returns-clause-ok : goal.returns-clause-ok
returns-clause-ok c =
    let short : TextsFit (map change_data c.args.changes.now) = omega (arith, c.changes_len.ensures, c.if-changes_len-gt-MAX_EDIT_BYTES.false) in (
      λ _. record {
        count = subst AreEnough (sym (length-map c.args.changes.now change_data)) (c.change_count_fits.ensures.0 c.if-not-change_count_fits.false);
        distinct = c.are_distinct.ensures.0 c.if-not-are_distinct.false;
        changes = all_allowed (map change_data c.args.changes.now) c.in-Ok.ensures.ok short;
        text = short;
      },
      λ _. refl,
    )

pub returns-then-not-are_distinct-clause-first : goal.returns-then-not-are_distinct-clause-first
returns-then-not-are_distinct-clause-first c = grind (arith, common_steps)

pub returns-then-not-are_distinct-clause-ok : goal.returns-then-not-are_distinct-clause-ok
returns-then-not-are_distinct-clause-ok c = refused (λ allowed. broken c.are_distinct.result c.are_distinct.ensures c.if-not-are_distinct.true allowed.distinct)

pub returns-in-Err-clause-ok : goal.returns-in-Err-clause-ok
returns-in-Err-clause-ok c = refused (λ allowed. not_all_fit (map change_data c.args.changes.now) c.in-Err.fault c.in-Err.ensures.first
    (all_fit (map change_data c.args.changes.now) allowed.changes))

pub returns-in-Err-clause-first : goal.returns-in-Err-clause-first
returns-in-Err-clause-first c = first_edit_fault (map change_data c.args.changes.now) c.in-Err.fault
    (subst AreEnough (sym (length-map c.args.changes.now change_data)) (c.change_count_fits.ensures.0 c.if-not-change_count_fits.false))
    (c.are_distinct.ensures.0 c.if-not-are_distinct.false) c.in-Err.ensures.first

pub changes_len-requires-clause-count : goal.changes_len-requires-clause-count
changes_len-requires-clause-count c = (c.change_count_fits.ensures.0 c.if-not-change_count_fits.false).1

pub changes_len-requires-clause-each : goal.changes_len-requires-clause-each
changes_len-requires-clause-each c = c.in-Ok.ensures.ok

pub returns-then-not-change_count_fits-clause-ok : goal.returns-then-not-change_count_fits-clause-ok
returns-then-not-change_count_fits-clause-ok c =
    let breaks = broken c.change_count_fits.result c.change_count_fits.ensures c.if-not-change_count_fits.true in
    refused (λ allowed. breaks (subst AreEnough (length-map c.args.changes.now change_data) allowed.count))

pub returns-then-not-change_count_fits-clause-first : goal.returns-then-not-change_count_fits-clause-first
returns-then-not-change_count_fits-clause-first c =
    let breaks = broken c.change_count_fits.result c.change_count_fits.ensures c.if-not-change_count_fits.true in
    λ count. breaks (subst AreEnough (length-map c.args.changes.now change_data) count)

pub returns-then-changes_len-gt-MAX_EDIT_BYTES-clause-ok : goal.returns-then-changes_len-gt-MAX_EDIT_BYTES-clause-ok
returns-then-changes_len-gt-MAX_EDIT_BYTES-clause-ok c =
    refused (λ allowed. omega (arith, c.changes_len.ensures, c.if-changes_len-gt-MAX_EDIT_BYTES.true, allowed.text))

pub returns-then-changes_len-gt-MAX_EDIT_BYTES-clause-first : goal.returns-then-changes_len-gt-MAX_EDIT_BYTES-clause-first
returns-then-changes_len-gt-MAX_EDIT_BYTES-clause-first c = (
  subst AreEnough (sym (length-map c.args.changes.now change_data)) (c.change_count_fits.ensures.0 c.if-not-change_count_fits.false),
  c.are_distinct.ensures.0 c.if-not-are_distinct.false,
  c.in-Ok.ensures.ok,
  λ short. omega (arith, c.changes_len.ensures, c.if-changes_len-gt-MAX_EDIT_BYTES.true, short),
)
