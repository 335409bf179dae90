-- Replies to edits that are made only if the map still has what their authors saw.
use Rattle.std.proofs.Common.{◌≡◌, inl, inr, ℕ, List, [], ◌∷◌, ◌++◌, Result, refl, sym, ap, ◌∙◌}
use Rattle.std.specs.List.{All}
use Rattle.std.proofs.lemmas.List.Elements.{All-head, All-tail}
use Rattle.http_serve.specs.Reply.{ReplyView}
use Rattle.sector_disk.specs.Disk.{History, HasFailed}
use Rattle.feature_model.specs.Seen.{SeenData}
use Rattle.feature_store.specs.Store.{feature_at}
use Rattle.tile_service.specs.Machine.{got, look, edit, batched, recorded_in}
use Rattle.tile_service.specs.Runs.{Takes, TakesAll}
use Rattle.tile_service.specs.Seen.{IsAsSeen, IsFirstChanged}
use Rattle.tile_service.specs.Service.{ServiceView, TellsDevice}
use Rattle.tile_service.specs.declared.fault.ServiceFault.{ServiceFault}
use Rattle.tile_service.proofs.Runs.Callers.{look_step, events_on}
use Rattle.map_replies.specs.Bodies.{CheckedEdit}
use Rattle.map_replies.specs.Meanings.{looks, MeansChecked, Answers}
use Rattle.map_replies.specs.Words.{outcome_reply, changed_reply}
use Rattle.map_replies.proofs.Answering.{device_failed}

module _ {D : Type 0} (sectors : D → ℕ) (honest : D → Type 0) (history : D → History) where
  -- looks that find what was seen
  looked : (old : ServiceView D) (all : List SeenData) → All (IsAsSeen old.features) all → TakesAll sectors honest history old (looks all) old
  looked old [] same = refl
  looked old (s ∷ all) same = (
    old,
    look_step sectors honest history old s.id (got s.feature) (sym (All-head (IsAsSeen old.features) s all same)),
    looked old all (All-tail (IsAsSeen old.features) s all same),
  )

  -- one isn't as it was seen
  pub told_changed : (failed : Type 0) (version : ℕ) (e : CheckedEdit) (id : ℕ) (old : ServiceView D) (reply : ReplyView)
      → reply ≡ changed_reply id → IsFirstChanged old.features e.seen id
      → Answers sectors honest history (MeansChecked failed version e) old old reply
  told_changed failed version e id old reply is first =
      let found = feature_at old.features first.seen.id in (
        looks first.before ++ look first.seen.id (got found) ∷ [],
        inr (first.before, first.seen, first.rest, found, first.is, first.changed, is ∙ ap changed_reply (sym first.number), refl),
        events_on sectors honest history old old old (looks first.before) (look first.seen.id (got found)) (looked old first.before first.same)
            (look_step sectors honest history old first.seen.id (got found) refl),
      )

  -- each is, and the edit was asked for
  pub made_unchanged : (before after : ℕ) (version : ℕ) (e : CheckedEdit) (old new : ServiceView D)
      (outcome : Result ℕ ServiceFault) (reply : ReplyView) → reply ≡ outcome_reply outcome → All (IsAsSeen old.features) e.seen
      → TellsDevice outcome before after → Takes sectors honest history old (edit batched (recorded_in version e.changes) outcome) new
      → Answers sectors honest history (MeansChecked (HasFailed before after) version e) old new reply
  made_unchanged before after version e old new outcome reply is same counts takes =
      let made = edit batched (recorded_in version e.changes) outcome in (
        looks e.seen ++ made ∷ [],
        inl (made ∷ [], refl, (outcome, is, device_failed outcome before after counts, refl)),
        events_on sectors honest history old old new (looks e.seen) made (looked old e.seen same) takes,
      )
