-- Replies to edits under conditions.
use Rattle.std.proofs.Common.{◌≡◌, inl, inr, ℕ, List, [], ◌∷◌, true, false, refl}
use Rattle.std.specs.Prelude.{Result}
use Rattle.http_serve.specs.Reply.{ReplyView}
use Rattle.sector_disk.specs.Disk.{History, HasFailed}
use Rattle.feature_store.specs.Store.{feature_at}
use Rattle.tile_service.specs.Machine.{got, look, Happening}
use Rattle.tile_service.specs.Runs.{Takes}
use Rattle.tile_service.specs.Service.{ServiceView, TellsDevice}
use Rattle.tile_service.specs.declared.fault.ServiceFault.{ServiceFault}
use Rattle.tile_service.proofs.Runs.Callers.{look_step}
use Rattle.map_replies.specs.declared.fault.RequestFault.TheVariants.{Condition}
use Rattle.map_replies.specs.declared.conditions.Needed.{Needed}
use Rattle.map_replies.specs.declared.conditions.Needed.TheVariants.{Free, There, Absent, Unmet}
use Rattle.map_replies.specs.Conditions.{meets}
use Rattle.map_replies.specs.Meanings.{MeansEdit, MeansIf, OrNoMemory, Answers}
use Rattle.map_replies.specs.Words.{refusal_of, outcome_reply}
use Rattle.map_replies.proofs.Answering.{device_failed}

module _ {D : Type 0} (sectors : D → ℕ) (honest : D → Type 0) (history : D → History) where
  module _ (id : ℕ) (IsMeant : ReplyView → List Happening → Type 0) (old : ServiceView D) where
    -- the feature is as the conditions want it, and one call was made
    pub made_if : (needed : Needed) (call : Happening) (new : ServiceView D) (reply : ReplyView) → meets needed (feature_at old.features id) ≡ true
        → IsMeant reply (call ∷ []) → Takes sectors honest history old call new
        → Answers sectors honest history (MeansIf needed id IsMeant) old new reply
    made_if Free call new reply meet is takes = (call ∷ [], is, (new, takes, refl))
    made_if There call new reply meet is takes =
        let found = feature_at old.features id in (
          look id (got found) ∷ call ∷ [],
          (found, inl (meet, call ∷ [], refl, is)),
          (old, look_step sectors honest history old id (got found) refl, (new, takes, refl)),
        )
    made_if Absent call new reply meet is takes =
        let found = feature_at old.features id in (
          look id (got found) ∷ call ∷ [],
          (found, inl (meet, call ∷ [], refl, is)),
          (old, look_step sectors honest history old id (got found) refl, (new, takes, refl)),
        )
    made_if Unmet call new reply meet is takes = cc

    -- it isn't
    pub refused_if : (needed : Needed) → meets needed (feature_at old.features id) ≡ false
        → Answers sectors honest history (MeansIf needed id IsMeant) old old (refusal_of Condition)
    refused_if Free other = cc
    refused_if There other =
        let found = feature_at old.features id in (
          look id (got found) ∷ [],
          (found, inr (other, refl, refl)),
          (old, look_step sectors honest history old id (got found) refl, refl),
        )
    refused_if Absent other =
        let found = feature_at old.features id in (
          look id (got found) ∷ [],
          (found, inr (other, refl, refl)),
          (old, look_step sectors honest history old id (got found) refl, refl),
        )
    refused_if Unmet other =
        let found = feature_at old.features id in (
          look id (got found) ∷ [],
          (found, inr (other, refl, refl)),
          (old, look_step sectors honest history old id (got found) refl, refl),
        )

  -- an edit was asked for, of a feature that is as the conditions want it
  pub edited_if : (id : ℕ) (old : ServiceView D) (needed : Needed) (before after : ℕ) (call : Result ℕ ServiceFault → Happening) (new : ServiceView D)
      (outcome : Result ℕ ServiceFault) (reply : ReplyView) → meets needed (feature_at old.features id) ≡ true → reply ≡ outcome_reply outcome
      → TellsDevice outcome before after → Takes sectors honest history old (call outcome) new
      → Answers sectors honest history (MeansIf needed id (MeansEdit (HasFailed before after) call)) old new reply
  edited_if id old needed before after call new outcome reply meet is counts takes =
      made_if id (MeansEdit (HasFailed before after) call) old needed (call outcome) new reply meet
      (outcome, is, device_failed outcome before after counts, refl) takes

  -- the same of what is refused if there is no memory for it
  pub or_no_memory : (IsMeant : ReplyView → List Happening → Type 0) (old new : ServiceView D) (reply : ReplyView)
      → Answers sectors honest history IsMeant old new reply → Answers sectors honest history (OrNoMemory IsMeant) old new reply
  or_no_memory IsMeant old new reply (happenings, is, takes) = (happenings, inl is, takes)
