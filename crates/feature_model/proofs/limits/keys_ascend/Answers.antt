use Rattle.std.proofs.Common.{◌-◌, ◌∙◌, refl, sym, arith}
use Rattle.std.proofs.lemmas.Bool.{false≢true}
use Rattle.feature_model.proofs.Ascending.{ascending_from_neighbours, not_ascending}
use Rattle.feature_model.proofs.limits.keys_ascend.Goals as goal

pub loop-i-init : goal.loop-i-init
loop-i-init c = λ k d h. absurd (omega arith)

pub returns-then-not-is_before : goal.returns-then-not-is_before
returns-then-not-is_before c = (
  λ e. absurd (false≢true e),
  λ h. absurd (not_ascending c.args.tags.now (c.loop-i.i - 1) c.loop-i.i _ _ (omega arith) c.loop-i-test.true c.index-tags-i.is c.index-tags-i-in-loop-i.is
      (sym c.is_before.ensures ∙ c.if-not-is_before.true) h),
)

pub returns : goal.returns
returns c = (λ _. ascending_from_neighbours _ (λ k d h. c.loop-i.invariant k d (omega arith)), λ _. refl)
