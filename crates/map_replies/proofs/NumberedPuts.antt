-- What a request for a feature under a number asks for: nothing, or a look at the feature, or its edit, perhaps after such a look.
use Rattle.std.proofs.Common.{◌≡◌, ◌⊎◌, inl, inr, ◌+◌, ℕ, List, [], ◌∷◌, ◌++◌, Option, Result, sym, subst}
use Rattle.feature_model.specs.Data.{FeatureData, put}
use Rattle.http_serve.specs.Reply.{ReplyView}
use Rattle.tile_service.specs.Machine.{Happening, look, got, edit, single, recorded_change}
use Rattle.tile_service.specs.declared.fault.ServiceFault.{ServiceFault}
use Rattle.tile_service.specs.declared.status.Status.{Status}
use Rattle.map_replies.specs.declared.conditions.Needed.{Needed}
use Rattle.map_replies.specs.declared.conditions.Needed.TheVariants.{Free, There, Absent, Unmet}
use Rattle.map_replies.specs.Bodies.{SaysFeature}
use Rattle.map_replies.specs.Meanings.{IfAgrees, IfNext, MeansIf, MeansEdit, MeansNumberedPut}
use Rattle.map_replies.proofs.Quiet.{AreQuiet}

-- the edit that sets the feature of the body is asked for under the next number, after calls that ask for none
pub record IsPut (old : Status) (id number : ℕ) (body : List ℕ) (happenings : List Happening) : Type 0 where
  pub feature : FeatureData
  pub says : SaysFeature body feature
  pub next : number ≡ old.edits + 1
  pub before : List Happening
  pub quiet : AreQuiet before
  pub outcome : Result ℕ ServiceFault
  pub are : happenings ≡ before ++ edit single (recorded_change old.version (put id feature)) outcome ∷ []

none_quiet : (happenings : List Happening) → happenings ≡ [] → AreQuiet happenings
none_quiet happenings none = subst AreQuiet (sym none) tt

module _ (failed : Type 0) (old : Status) (id number : ℕ) (body : List ℕ) (f : FeatureData) where
  abbrev IsAsked : ReplyView → List Happening → Type 0
  IsAsked reply happenings = MeansEdit failed (edit single (recorded_change old.version (put id f))) reply happenings

  asked : (reply : ReplyView) (happenings : List Happening) → SaysFeature body f → number ≡ old.edits + 1 → IsAsked reply happenings
      → IsPut old id number body happenings
  asked reply happenings says next means = record {
    feature = f;
    says = says;
    next = next;
    before = [];
    quiet = tt;
    outcome = means.0;
    are = means.3;
  }

  -- after a look at the feature
  looked : (reply : ReplyView) (happenings : List Happening) (found : Option FeatureData) (more : List Happening) → SaysFeature body f
      → number ≡ old.edits + 1 → happenings ≡ look id (got found) ∷ more → IsAsked reply more → IsPut old id number body happenings
  looked reply happenings found more says next are means = record {
    feature = f;
    says = says;
    next = next;
    before = look id (got found) ∷ [];
    quiet = (tt, tt);
    outcome = means.0;
    are = subst (λ (l : List Happening). happenings ≡ look id (got found) ∷ l) means.3 are;
  }

  refused : (happenings : List Happening) (found : Option FeatureData) → happenings ≡ look id (got found) ∷ [] → AreQuiet happenings
  refused happenings found are = subst AreQuiet (sym are) (tt, tt)

  if_needed : (needs : Needed) (reply : ReplyView) (happenings : List Happening) → SaysFeature body f → number ≡ old.edits + 1
      → MeansIf needs id IsAsked reply happenings → AreQuiet happenings ⊎ IsPut old id number body happenings
  if_needed Free reply happenings says next means = inr (asked reply happenings says next means)
  if_needed There reply happenings says next (found, inl means) = inr (looked reply happenings found means.1 says next means.2 means.3)
  if_needed There reply happenings says next (found, inr means) = inl (refused happenings found means.2)
  if_needed Absent reply happenings says next (found, inl means) = inr (looked reply happenings found means.1 says next means.2 means.3)
  if_needed Absent reply happenings says next (found, inr means) = inl (refused happenings found means.2)
  if_needed Unmet reply happenings says next (found, inl means) = inr (looked reply happenings found means.1 says next means.2 means.3)
  if_needed Unmet reply happenings says next (found, inr means) = inl (refused happenings found means.2)

  if_agrees : (query : List ℕ) (needs : Needed) (reply : ReplyView) (happenings : List Happening) → SaysFeature body f → number ≡ old.edits + 1
      → IfAgrees old query (MeansIf needs id IsAsked) reply happenings → AreQuiet happenings ⊎ IsPut old id number body happenings
  if_agrees query needs reply happenings says next (inl (agreed, means)) = if_needed needs reply happenings says next means
  if_agrees query needs reply happenings says next (inr other) = inl (none_quiet happenings other.1.1)

  if_next : (query : List ℕ) (needs : Needed) (reply : ReplyView) (happenings : List Happening) → SaysFeature body f
      → IfNext old number (IfAgrees old query (MeansIf needs id IsAsked)) reply happenings → AreQuiet happenings ⊎ IsPut old id number body happenings
  if_next query needs reply happenings says (inl (next, means)) = if_agrees query needs reply happenings says next means
  if_next query needs reply happenings says (inr other) = inl (none_quiet happenings other.2)

pub put_asks : (failed : Type 0) (old : Status) (query : List ℕ) (needs : Needed) (id number : ℕ) (body : List ℕ) (reply : ReplyView)
    (happenings : List Happening) → MeansNumberedPut failed old query needs id number body reply happenings
    → AreQuiet happenings ⊎ IsPut old id number body happenings
put_asks failed old query needs id number body reply happenings (inl (f, says, means)) =
    if_next failed old id number body f query needs reply happenings says means
put_asks failed old query needs id number body reply happenings (inr (inl refused)) = inl (none_quiet happenings refused.2.1)
put_asks failed old query needs id number body reply happenings (inr (inr refused)) = inl (none_quiet happenings refused.1)
