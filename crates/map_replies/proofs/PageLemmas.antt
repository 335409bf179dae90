-- Pages of features.
use Rattle.std.proofs.Common.{◌≡◌, ◌<◌, ◌+◌, ◌-◌, ◌∙◌, ◌⊎◌, inl, inr, ℕ, List, [], ◌∷◌, ◌++◌, length, map, Bool, Option, Some, None, refl, sym}
use Rattle.std.proofs.Common.{ap, subst, append_assoc, arith, Result, Ok, Err, Global}
use Rattle.std.specs.Prelude.{IfOk, Vec}
use Rattle.std.proofs.lemmas.List.{append-nil, map-append}
use Rattle.http_serve.specs.Reply.{ReplyView}
use Rattle.feature_store.specs.Store.{FeatureMap, feature_from}
use Rattle.sector_disk.specs.Disk.{History}
use Rattle.tile_service.specs.Machine.{got, look_from}
use Rattle.tile_service.specs.Runs.{TakesAll}
use Rattle.tile_service.specs.Service.{ServiceView}
use Rattle.tile_service.proofs.Runs.Callers.{look_from_step}
use Rattle.map_replies.specs.Meanings.{MeansPage, Answers}
use Rattle.map_replies.specs.Pages.{Entry, AreFrom, AreEnough, listed, all_listed, page_reply, looks_from}
use Rattle.map_replies.specs.Lists.{comma_if, joined}
use Rattle.map_replies.proofs.ListLemmas.{are_some, joined_on}
use Rattle.map_replies.specs.Words.{numbered_body}
use Rattle.map_replies.specs.declared.pages.TheConstants.{PAGE_BYTES}

-- ---- the text of one entry

some_listed : (feature : List ℕ) (id : ℕ) → 0 < length (numbered_body feature id)
unfolding numbered_body
some_listed feature id = omega arith

pub ok_some : {E : Type 0} (r : Result (Vec ℕ Global) E) (feature : List ℕ) (id : ℕ) → IfOk r (λ text. text.items ≡ numbered_body feature id)
    → IfOk r (λ text. 0 < length text.items)
ok_some (Ok text) feature id is = subst (λ (l : List ℕ). 0 < length l) (sym is) (some_listed feature id)
ok_some (Err fault) feature id is = tt

-- ---- while entries are added

-- what is still to come, from here on, completes these entries to a page
abbrev pub Completes : (m : FeatureMap) → (bytes id : ℕ) → (done : List Entry) → (left from : ℕ) → Type 0
Completes m bytes id done left from = (es : List Entry) (next : Option Entry) → AreFrom m from es next → AreEnough left es next
    → AreFrom m id (done ++ es) next × AreEnough bytes (done ++ es) next

-- one more entry
pub completes_more : (m : FeatureMap) (bytes id left from : ℕ) (done : List Entry) (e : Entry) → 0 < left → feature_from m from ≡ Some e
    → Completes m bytes id done left from → Completes m bytes id (done ++ e ∷ []) (left - length (listed e)) (e.0 + 1)
completes_more m bytes id left from done e some is completes es next are enough =
    let whole = completes (e ∷ es) next (is, are) (some, enough) in
    subst (λ (l : List Entry). AreFrom m id l next × AreEnough bytes l next) (sym (append_assoc done (e ∷ []) es)) whole

-- there is no more room, or no more entry
pub page_ends : (m : FeatureMap) (bytes id left from : ℕ) (done : List Entry) (next : Option Entry) → Completes m bytes id done left from
    → feature_from m from ≡ next → (left ≡ 0) ⊎ (next ≡ None) → AreFrom m id done next × AreEnough bytes done next
page_ends m bytes id left from done next completes is ends =
    subst (λ (l : List Entry). AreFrom m id l next × AreEnough bytes l next) (append-nil done) (completes [] next is ends)

-- ---- their text

some_mapped : (done : List Entry) → are_some done ≡ are_some (map listed done)
some_mapped [] = refl
some_mapped (e ∷ es) = refl

pub listed_on : (old text new : List ℕ) (more : Bool) (done : List Entry) (e : Entry) → text ≡ old ++ all_listed done → more ≡ are_some done
    → new ≡ text ++ (comma_if more ++ listed e) → new ≡ old ++ all_listed (done ++ e ∷ [])
listed_on old text new more done e text_is more_is new_is =
    joined_on old text new more (map listed done) (listed e) text_is (more_is ∙ some_mapped done) new_is
    ∙ ap (λ (ts : List (List ℕ)). old ++ joined ts) (sym (map-append listed done (e ∷ [])))

-- ---- what happens

module _ {D : Type 0} (sectors : D → ℕ) (honest : D → Type 0) (history : D → History) where
  pub takes_looks : (old : ServiceView D) (id : ℕ) (es : List Entry) (next : Option Entry) → AreFrom old.features id es next
      → TakesAll sectors honest history old (looks_from id es next) old
  takes_looks old id [] next is = (old, look_from_step sectors honest history old id (got next) (sym is), refl)
  takes_looks old id (e ∷ es) next is =
      (old, look_from_step sectors honest history old id (got (Some e)) (sym is.0), takes_looks old (e.0 + 1) es next is.1)

  pub page_told : (old : ServiceView D) (id : ℕ) (es : List Entry) (next : Option Entry) (reply : ReplyView) → AreFrom old.features id es next
      → AreEnough PAGE_BYTES es next → reply ≡ page_reply es next → Answers sectors honest history (MeansPage id) old old reply
  page_told old id es next reply from enough is = (looks_from id es next, inr (es, next, enough, is, refl), takes_looks old id es next from)
