use Rattle.std.proofs.Common.{◌≡◌, ◌-◌, ◌+◌, inl, inr, ℕ, List, [], ◌∷◌, ◌++◌, length, Some, None, refl, sym, subst, arith}
use Rattle.edit_text.specs.Views.{feature_view}
use Rattle.map_replies.specs.Pages.{Entry, listed}
use Rattle.map_replies.specs.declared.pages.TheConstants.{PAGE_BYTES}
use Rattle.map_replies.proofs.PageLemmas.{Completes, completes_more, page_ends, listed_on}
use Rattle.map_replies.proofs.ListLemmas.{some_after}
use Rattle.map_replies.proofs.pages.add_features.Goals as goal

pub loop-left-preserved : goal.loop-left-preserved
loop-left-preserved g c =
    let so = c.loop-left.invariant in
    let m = c.args.service.now.features in
    let e : Entry = (c.in-Some.number, feature_view c.in-Some.feature) in
    let left : c.saturating_sub-left.result ≡ c.loop-left.left - length (listed e) =
    omega (arith, c.saturating_sub-left.ensures, c.in_ok-size.ensures.size) in (
      so.0 ++ e ∷ [],
      subst (λ (n : ℕ). Completes m PAGE_BYTES c.args.id (so.0 ++ e ∷ []) n (c.in-Some.number + 1)) (sym left)
          (completes_more m PAGE_BYTES c.args.id c.loop-left.left c.loop-left.from so.0 e (omega (arith, c.loop-left-test.true))
          (sym c.in-Some.ensures.found) so.1),
      listed_on c.args.text.now.items c.loop-left.text.items c.add_feature.new.text.items c.loop-left.more so.0 e so.2 so.3
          c.in_ok-size.ensures.items,
      sym (some_after so.0 e),
    )

-- no feature is left
pub returns-in_default : goal.returns-in_default
returns-in_default g c =
    let so = c.loop-left.invariant in
    let ends = page_ends c.args.service.now.features PAGE_BYTES c.args.id c.loop-left.left c.loop-left.from so.0 None so.1
    (sym c.in_default.ensures.found) (inr refl) in
    (so.0, None, ends.0, ends.1, so.2, refl)

-- the page is full
pub returns-in-Some-feature_from : goal.returns-in-Some-feature_from
returns-in-Some-feature_from g c =
    let so = c.loop-left.invariant in
    let next : Entry = (c.in-Some-feature_from.number, feature_view c.in-Some-feature_from.field-0-1) in
    let ends = page_ends c.args.service.now.features PAGE_BYTES c.args.id c.loop-left.left c.loop-left.from so.0 (Some next) so.1
    (sym c.in-Some-feature_from.ensures.found) (inl (omega (arith, c.loop-left-test.false))) in
    (so.0, Some next, ends.0, ends.1, so.2, refl)

pub returns-in-None : goal.returns-in-None
returns-in-None g c =
    let so = c.loop-left.invariant in
    let ends = page_ends c.args.service.now.features PAGE_BYTES c.args.id c.loop-left.left c.loop-left.from so.0 None so.1
    (sym c.in-None.ensures.found) (inr refl) in
    (so.0, None, ends.0, ends.1, so.2, refl)
