-- No checked edit replaces a feature that its author hadn't seen.
use Rattle.std.proofs.Common.{◌≡◌, ◌≢◌, inl, inr, ℕ, List, [], ◌∷◌, ◌++◌, Option, refl, sym, ap, subst, ◌∙◌}
use Rattle.std.specs.List.{All}
use Rattle.std.proofs.lemmas.List.Elements.{All-nil, All-cons}
use Rattle.http_serve.specs.Reply.{ReplyView}
use Rattle.sector_disk.specs.Disk.{History}
use Rattle.feature_model.specs.Data.{FeatureData}
use Rattle.feature_model.specs.Seen.{SeenData}
use Rattle.feature_store.specs.Store.{FeatureMap}
use Rattle.tile_service.specs.Machine.{OrMemory, got, look, edit, Happening, ServiceState}
use Rattle.tile_service.specs.Runs.{acknowledged, TakesAll}
use Rattle.tile_service.specs.Seen.{IsAsSeen}
use Rattle.tile_service.specs.Service.{ServiceView}
use Rattle.tile_service.proofs.Runs.OneEvent.{no_known}
use Rattle.edit_json.proofs.CheckedLaws.{checked-numbers}
use Rattle.map_replies.specs.Bodies.{CheckedEdit, SaysChecked}
use Rattle.map_replies.specs.Meanings.{looks, MeansChecked, MeansCheckedBatch, ReplacesSeen}

-- looks make no edit
looks_only : (all : List SeenData) (id : ℕ) (found : OrMemory (Option FeatureData)) → acknowledged (looks all ++ look id found ∷ []) ≡ []
looks_only [] id found = refl
looks_only (s ∷ all) id found = looks_only all id found

module _ {D : Type 0} (sectors : D → ℕ) (honest : D → Type 0) (history : D → History) where
  looks_found : (old new : ServiceView D) (all : List SeenData) (rest : List Happening) → TakesAll sectors honest history old (looks all ++ rest) new
      → All (IsAsSeen old.features) all
  looks_found old new [] rest takes = All-nil (IsAsSeen old.features)
  looks_found old new (s ∷ all) rest takes =
      let happened = takes.1.machine no_known in
      let found = looks_found takes.0 new all rest takes.2 in
      let same = subst (λ (m : FeatureMap). All (IsAsSeen m) all) (ap (λ (state : ServiceState). state.features) happened.1) found in
      All-cons (IsAsSeen old.features) s all (sym happened.0) same

  seen_there : (failed : Type 0) (version : ℕ) (body : List ℕ) (reply : ReplyView) (happenings : List Happening) (old new : ServiceView D)
      (e : CheckedEdit) → SaysChecked body e → MeansChecked failed version e reply happenings
      → TakesAll sectors honest history old happenings new → acknowledged happenings ≢ [] → ReplacesSeen old.features body
  seen_there failed version body reply happenings old new e says (inl is) takes some = record {
    edit = e;
    says = says;
    numbers = checked-numbers says.value e.changes e.seen says.checked;
    seen = looks_found old new e.seen is.0 (subst (λ (h : List Happening). TakesAll sectors honest history old h new) is.1 takes);
  }
  seen_there failed version body reply happenings old new e says (inr is) takes some =
      absurd (some (ap acknowledged is.7 ∙ looks_only is.0 is.1.id (got is.3)))

  pub replaced_seen : (failed : Type 0) (version : ℕ) (body : List ℕ) (reply : ReplyView) (happenings : List Happening) (old new : ServiceView D)
      → MeansCheckedBatch failed version body reply happenings → TakesAll sectors honest history old happenings new
      → acknowledged happenings ≢ [] → ReplacesSeen old.features body
  replaced_seen failed version body reply happenings old new (inl said) takes some =
      seen_there failed version body reply happenings old new said.0 said.1 said.2 takes some
  replaced_seen failed version body reply happenings old new (inr (inl refused)) takes some = absurd (some (ap acknowledged refused.2.1))
  replaced_seen failed version body reply happenings old new (inr (inr refused)) takes some = absurd (some (ap acknowledged refused.1))
