-- No edit is made of a feature that isn't as its conditions want it.
use Rattle.std.proofs.Common.{◌≡◌, ◌≢◌, inl, inr, ℕ, List, [], ◌∷◌, Option, true, refl, ap, subst}
use Rattle.http_serve.specs.Reply.{ReplyView}
use Rattle.sector_disk.specs.Disk.{History}
use Rattle.feature_model.specs.Data.{FeatureData}
use Rattle.feature_store.specs.Store.{feature_at}
use Rattle.tile_routes.specs.declared.method.Method.{Method}
use Rattle.tile_routes.specs.declared.method.Method.TheVariants.{Get, Head, Put, Delete, Post}
use Rattle.tile_service.specs.Machine.{got, look, Happening}
use Rattle.tile_service.specs.Runs.{acknowledged, TakesAll}
use Rattle.tile_service.specs.Service.{ServiceView}
use Rattle.tile_service.proofs.Runs.OneEvent.{no_known}
use Rattle.map_replies.specs.declared.conditions.Needed.{Needed}
use Rattle.map_replies.specs.declared.conditions.Needed.TheVariants.{Free, There, Absent, Unmet}
use Rattle.map_replies.specs.Conditions.{meets}
use Rattle.map_replies.specs.Meanings.{MeansIf, MeansOnFeature}

module _ {D : Type 0} (sectors : D → ℕ) (honest : D → Type 0) (history : D → History) where
  -- a look comes first, and finds what is there
  found_first : (needed : Needed) (id : ℕ) (found : Option FeatureData) (old new : ServiceView D) (happenings after : List Happening)
      → happenings ≡ look id (got found) ∷ after → TakesAll sectors honest history old happenings new → meets needed found ≡ true
      → meets needed (feature_at old.features id) ≡ true
  found_first needed id found old new happenings after is takes meet =
      let first = (subst (λ (l : List Happening). TakesAll sectors honest history old l new) is takes).1.machine no_known in
      subst (λ (f : Option FeatureData). meets needed f ≡ true) first.0 meet

  met_if : (needed : Needed) (id : ℕ) (IsMeant : ReplyView → List Happening → Type 0) (reply : ReplyView) (happenings : List Happening)
      (old new : ServiceView D) → MeansIf needed id IsMeant reply happenings → TakesAll sectors honest history old happenings new
      → acknowledged happenings ≢ [] → meets needed (feature_at old.features id) ≡ true
  met_if Free id IsMeant reply happenings old new means takes some = refl
  met_if There id IsMeant reply happenings old new (found, inl is) takes some =
      found_first There id found old new happenings is.1 is.2 takes is.0
  met_if There id IsMeant reply happenings old new (found, inr is) takes some = absurd (some (ap acknowledged is.2))
  met_if Absent id IsMeant reply happenings old new (found, inl is) takes some =
      found_first Absent id found old new happenings is.1 is.2 takes is.0
  met_if Absent id IsMeant reply happenings old new (found, inr is) takes some = absurd (some (ap acknowledged is.2))
  met_if Unmet id IsMeant reply happenings old new (found, inl is) takes some =
      found_first Unmet id found old new happenings is.1 is.2 takes is.0
  met_if Unmet id IsMeant reply happenings old new (found, inr is) takes some = absurd (some (ap acknowledged is.2))

  pub met : (failed : Type 0) (version : ℕ) (needed : Needed) (id : ℕ) (method : Method) (body : List ℕ) (reply : ReplyView)
      (happenings : List Happening) (old new : ServiceView D) → MeansOnFeature failed version needed id method body reply happenings
      → TakesAll sectors honest history old happenings new → acknowledged happenings ≢ [] → meets needed (feature_at old.features id) ≡ true
  met failed version needed id Put body reply happenings old new (inl said) takes some = met_if needed id _ reply happenings old new said.2 takes some
  met failed version needed id Put body reply happenings old new (inr (inl refused)) takes some = absurd (some (ap acknowledged refused.2.1))
  met failed version needed id Put body reply happenings old new (inr (inr refused)) takes some = absurd (some (ap acknowledged refused.1))
  met failed version needed id Delete body reply happenings old new (inl is) takes some = met_if needed id _ reply happenings old new is takes some
  met failed version needed id Delete body reply happenings old new (inr refused) takes some = absurd (some (ap acknowledged refused.1))
  met failed version needed id Get body reply happenings old new means takes some = absurd (some (ap acknowledged means.2))
  met failed version needed id Head body reply happenings old new means takes some = absurd (some (ap acknowledged means.2))
  met failed version needed id Post body reply happenings old new means takes some = absurd (some (ap acknowledged means.2))
