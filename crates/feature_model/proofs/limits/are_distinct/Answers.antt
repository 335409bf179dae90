use Rattle.std.proofs.Common.{refl, sym, ◌∙◌, subst, map, take, arith}
use Rattle.std.proofs.lemmas.Bool.{false≢true}
use Rattle.std.proofs.lemmas.List.{length-map}
use Rattle.feature_model.specs.Data.{change_data}
use Rattle.feature_model.specs.Limits.{IsNew}
use Rattle.feature_model.proofs.Changes.{distinct_step, not_distinct}
use Rattle.feature_model.proofs.limits.are_distinct.Goals as goal

pub loop-i-init : goal.loop-i-init
loop-i-init c = λ k d lt within. absurd (omega arith)

pub returns-then-not-is_new : goal.returns-then-not-is_new
returns-then-not-is_new c = (
  λ e. absurd (false≢true e),
  λ distinct. absurd (not_distinct c.loop-i.i c.args.changes.now c.index-changes-i.result c.loop-i-test.true c.index-changes-i.is
      (λ new. false≢true (sym c.if-not-is_new.true
      ∙ c.is_new.ensures.1 (subst (IsNew (map change_data (take c.loop-i.i c.args.changes.now))) (sym c.number.ensures) new)))
      distinct),
)

pub loop-i-preserved : goal.loop-i-preserved
loop-i-preserved c = distinct_step c.loop-i.i c.args.changes.now c.index-changes-i.result c.loop-i-test.true c.index-changes-i.is
    (subst (IsNew (map change_data (take c.loop-i.i c.args.changes.now))) c.number.ensures (c.is_new.ensures.0 c.if-not-is_new.false))
    c.loop-i.invariant

pub returns : goal.returns
returns c = (
  λ _ k d within. c.loop-i.invariant k d (omega (arith, within, length-map c.args.changes.now change_data, c.loop-i-test.false)) within,
  λ _. refl,
)
