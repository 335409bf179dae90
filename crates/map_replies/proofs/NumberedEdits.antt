-- Replies to edits that are made only if they get a number.
use Rattle.std.proofs.Common.{◌≡◌, ◌≢◌, ◌+◌, inl, inr, ℕ, true, false, List, [], ◌∷◌, Result, refl, sym, ap, ◌∙◌}
use Rattle.http_serve.specs.Reply.{ReplyView}
use Rattle.sector_disk.specs.Disk.{History, HasFailed}
use Rattle.feature_model.specs.Data.{EditData}
use Rattle.feature_store.specs.Digests.{map_digest}
use Rattle.tile_service.specs.Machine.{Happening, edit, batched, recorded_in}
use Rattle.tile_service.specs.Runs.{Takes}
use Rattle.tile_service.specs.Service.{ServiceView, TellsDevice, status_of}
use Rattle.tile_service.specs.declared.fault.ServiceFault.{ServiceFault}
use Rattle.map_replies.specs.declared.fault.RequestFault.TheVariants.{Digest}
use Rattle.map_replies.specs.Digests.{agrees}
use Rattle.map_replies.specs.Meanings.{IfNext, IfAgrees, MeansNumbered, Answers}
use Rattle.map_replies.specs.Words.{outcome_reply, not_next_reply, refusal_of}
use Rattle.map_replies.proofs.Answering.{device_failed}

module _ {D : Type 0} (sectors : D → ℕ) (honest : D → Type 0) (history : D → History) where
  -- it would get this one, the query agrees, and it was asked for
  pub made_numbered : (before after : ℕ) (query : List ℕ) (number : ℕ) (cs : EditData) (old new : ServiceView D) (outcome : Result ℕ ServiceFault)
      (reply : ReplyView) → number ≡ old.journal.last + 1 → agrees query (map_digest old.features) ≡ true → reply ≡ outcome_reply outcome
      → TellsDevice outcome before after → Takes sectors honest history old (edit batched (recorded_in old.version cs) outcome) new
      → Answers sectors honest history (MeansNumbered (HasFailed before after) (status_of old) query number cs) old new reply
  made_numbered before after query number cs old new outcome reply next agreed is counts takes = (
    edit batched (recorded_in old.version cs) outcome ∷ [],
    inl (next, inl (agreed, (outcome, is, device_failed outcome before after counts, refl))),
    (new, takes, refl),
  )

  -- the number is that of the next edit
  pub if_next : (number : ℕ) (IsMeant : ReplyView → List Happening → Type 0) (old new : ServiceView D) (reply : ReplyView)
      → number ≡ old.journal.last + 1 → Answers sectors honest history IsMeant old new reply
      → Answers sectors honest history (IfNext (status_of old) number IsMeant) old new reply
  if_next number IsMeant old new reply next is = (is.0, inl (next, is.1), is.2)

  -- it is another one
  pub if_not_next : (number last : ℕ) (IsMeant : ReplyView → List Happening → Type 0) (old : ServiceView D) (reply : ReplyView)
      → (number ≡ last + 1 → ⊥) → last ≡ old.journal.last → reply ≡ not_next_reply last
      → Answers sectors honest history (IfNext (status_of old) number IsMeant) old old reply
  if_not_next number last IsMeant old reply other same is = (
    [],
    inr ((λ next. other (next ∙ ap (λ (n : ℕ). n + 1) (sym same))), is ∙ ap not_next_reply same, refl),
    refl,
  )

  -- the query agrees
  pub if_agrees : (query : List ℕ) (IsMeant : ReplyView → List Happening → Type 0) (old new : ServiceView D) (reply : ReplyView)
      → agrees query (map_digest old.features) ≡ true → Answers sectors honest history IsMeant old new reply
      → Answers sectors honest history (IfAgrees (status_of old) query IsMeant) old new reply
  if_agrees query IsMeant old new reply agreed is = (is.0, inl (agreed, is.1), is.2)

  -- it names another digest
  pub if_differs : (query : List ℕ) (IsMeant : ReplyView → List Happening → Type 0) (old : ServiceView D) (reply : ReplyView)
      → agrees query (map_digest old.features) ≡ false → reply ≡ refusal_of Digest
      → Answers sectors honest history (IfAgrees (status_of old) query IsMeant) old old reply
  if_differs query IsMeant old reply other is = ([], inr (other, (is, refl)), refl)
