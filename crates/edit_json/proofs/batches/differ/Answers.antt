use Rattle.std.proofs.Common.{refl, sym, ◌∙◌, arith}
use Rattle.std.proofs.lemmas.Bool.{false≢true}
use Rattle.edit_json.proofs.BatchLaws.{differ-at, not-differ-at}
use Rattle.edit_json.proofs.batches.differ.Goals as goal

pub loop-i-init : goal.loop-i-init
loop-i-init c = λ k d lt within. absurd (omega arith)

pub returns-then-not-is_new : goal.returns-then-not-is_new
returns-then-not-is_new c = (
  λ e. absurd (false≢true e),
  λ all. absurd (not-differ-at c.loop-i.i c.args.numbers.now c.loop-i-test.true
      (λ new. false≢true (sym c.if-not-is_new.true ∙ c.is_new.ensures.1 new)) all),
)

pub loop-i-preserved : goal.loop-i-preserved
loop-i-preserved c = differ-at c.loop-i.i c.args.numbers.now c.loop-i-test.true
    (c.is_new.ensures.0 c.if-not-is_new.false) c.loop-i.invariant

pub returns : goal.returns
returns c = (
  λ _ k d within. c.loop-i.invariant k d (omega (arith, within, c.loop-i-test.false)) within,
  λ _. refl,
)
