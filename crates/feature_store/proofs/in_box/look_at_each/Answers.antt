use Rattle.std.proofs.Common.{ℕ, ◌+◌, ◌++◌, ◌∷◌, [], None, refl, sym, ap, ◌∙◌, arith}
use Rattle.std.proofs.lemmas.Bool.{false≢true}
use Rattle.std.proofs.lemmas.List.{length-append}
use Rattle.edit_text.specs.Views.{feature_view}
use Rattle.feature_model.specs.Data.{FeatureData}
use Rattle.feature_store.specs.Store.{feature_from}
use Rattle.feature_store.proofs.Looked.{continues_more, numbers_more, found_end}
use Rattle.feature_store.proofs.in_box.look_at_each.Goals as goal

pub loop-preserved : goal.loop-preserved
loop-preserved c =
    let so = c.loop.invariant in
    let e : ℕ × FeatureData = (c.in-Some.number, feature_view c.in-Some.feature) in (
      so.0 ++ e ∷ [],
      continues_more c.args.store.now.features c.args.id c.loop.from so.0 e (sym c.in-Some.ensures.found) so.1,
      numbers_more c.args.bounds.now so.0 e c.loop.numbers.items c.add_met.new.numbers.items so.2 c.in_ok-add_met.ensures,
      length-append so.0 (e ∷ []) ∙ ap (λ (n : ℕ). n + 1) so.3,
    )

-- no feature is left
pub returns-in_default : goal.returns-in_default
returns-in_default c =
    let so = c.loop.invariant in
    found_end c.args.store.now.features c.args.bounds.now c.args.id c.loop.from so.0 None _ so.1 (sym c.in_default.ensures.found) so.2 refl
    (λ some. absurd (false≢true some))

pub returns : goal.returns
returns c =
    let so = c.loop.invariant in
    found_end c.args.store.now.features c.args.bounds.now c.args.id c.loop.from so.0 (feature_from c.args.store.now.features c.loop.from) _ so.1 refl so.2
    c.next_number-next.ensures (λ some. omega (arith, so.3, c.loop-test.false))
