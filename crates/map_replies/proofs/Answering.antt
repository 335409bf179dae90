-- Replies that report what a call of the service did.
use Rattle.std.proofs.Common.{◌≡◌, ◌⊎◌, inl, inr, ℕ, List, [], ◌∷◌, ◌++◌, Some, Result, Ok, Err, refl, ap}
use Rattle.std.specs.Prelude.{IfOk, IfErr}
use Rattle.http_serve.specs.Reply.{ReplyView, reply_view}
use Rattle.http_serve.specs.declared.replies.Reply.{Reply}
use Rattle.edit_json.specs.Json.{json_of}
use Rattle.feature_model.specs.Data.{FeatureData}
use Rattle.sector_disk.specs.Disk.{History, HasFailed}
use Rattle.map_replies.specs.Bodies.{IsJson}
use Rattle.tile_service.specs.Machine.{OrMemory, got, no_memory, look, Happening}
use Rattle.tile_service.specs.Runs.{begin_and_steps, Takes, TakesPublication}
use Rattle.tile_service.specs.Service.{ServiceView, status_of, TellsDevice}
use Rattle.tile_service.specs.declared.fault.ServiceFault.TheVariants.{Device}
use Rattle.tile_service.specs.declared.publishing_whole.Published.{Published}
use Rattle.tile_service.specs.declared.fault.ServiceFault.{ServiceFault}
use Rattle.map_replies.specs.Meanings.{MeansCall, MeansLook, MeansChange, OrNoMemory, MeansBody, MeansEdit, MeansPublish, Answers}
use Rattle.map_replies.specs.Sending.{IsAnswered}
use Rattle.map_replies.specs.Words.{refusal_of, found_reply, shown_reply, published_reply, outcome_reply}
use Rattle.map_replies.specs.declared.fault.RequestFault.{RequestFault}
use Rattle.map_replies.specs.declared.fault.RequestFault.TheVariants.{Memory}

-- with the fault Device a call of the disk has failed
pub device_failed : {A : Type 0} (r : Result A ServiceFault) (before after : ℕ) → TellsDevice r before after
    → IfErr r (λ fault. fault ≡ Device → HasFailed before after)
device_failed (Ok a) before after is = tt
device_failed (Err fault) before after (inl is) = λ device. is.1
device_failed (Err fault) before after (inr is) = λ device. absurd (is.0 device)

module _ {D : Type 0} (sectors : D → ℕ) (honest : D → Type 0) (history : D → History) where
  -- one call was made
  pub called : {A : Type 0} (call : A → Happening) (reply_of : A → ReplyView) (old new : ServiceView D) (outcome : A) (reply : ReplyView)
      → reply ≡ reply_of outcome → Takes sectors honest history old (call outcome) new
      → Answers sectors honest history (MeansCall call reply_of) old new reply
  called call reply_of old new outcome reply is takes = (call outcome ∷ [], (outcome, is, refl), (new, takes, refl))

  -- there was memory for it
  pub called_first : {A : Type 0} (call : A → Happening) (reply_of : A → ReplyView) (old new : ServiceView D) (outcome : A) (reply : ReplyView)
      → reply ≡ reply_of outcome → Takes sectors honest history old (call outcome) new
      → Answers sectors honest history (OrNoMemory (MeansCall call reply_of)) old new reply
  called_first call reply_of old new outcome reply is takes = (call outcome ∷ [], inl (outcome, is, refl), (new, takes, refl))

  -- one call was made that may be refused
  pub changed : {A : Type 0} (before after : ℕ) (call : Result A ServiceFault → Happening) (reply_of : Result A ServiceFault → ReplyView)
      (old new : ServiceView D) (outcome : Result A ServiceFault) (reply : ReplyView)
      → reply ≡ reply_of outcome → TellsDevice outcome before after → Takes sectors honest history old (call outcome) new
      → Answers sectors honest history (MeansChange (HasFailed before after) call reply_of) old new reply
  changed before after call reply_of old new outcome reply is counts takes =
      (call outcome ∷ [], (outcome, is, device_failed outcome before after counts, refl), (new, takes, refl))

  -- there was memory for it
  pub changed_first : {A : Type 0} (before after : ℕ) (call : Result A ServiceFault → Happening) (reply_of : Result A ServiceFault → ReplyView)
      (old new : ServiceView D) (outcome : Result A ServiceFault) (reply : ReplyView)
      → reply ≡ reply_of outcome → TellsDevice outcome before after → Takes sectors honest history old (call outcome) new
      → Answers sectors honest history (OrNoMemory (MeansChange (HasFailed before after) call reply_of)) old new reply
  changed_first before after call reply_of old new outcome reply is counts takes =
      (call outcome ∷ [], inl (outcome, is, device_failed outcome before after counts, refl), (new, takes, refl))

  -- what the reply means of this it means of something of which the same is true
  pub some_first : {A : Type 0} (a : A) (P : A → Type 0) (Means : A → ReplyView → List Happening → Type 0) (old new : ServiceView D) (reply : ReplyView)
      → P a → Answers sectors honest history (OrNoMemory (Means a)) old new reply
      → Answers sectors honest history (OrNoMemory (λ reply happenings. (a : A) × P a × Means a reply happenings)) old new reply
  some_first a P Means old new reply is (happenings, inl means, takes) = (happenings, inl (a, is, means), takes)
  some_first a P Means old new reply is (happenings, inr refused, takes) = (happenings, inr refused, takes)

  -- something is shown, if there is memory for the reply
  pub shown : {A : Type 0} (call : OrMemory A → Happening) (reply_of : A → ReplyView) (old new : ServiceView D) (a : A) (r : Result Reply RequestFault)
      → IfOk r (λ reply. reply_view [] reply ≡ reply_of a) → IfErr r (λ fault. fault ≡ Memory)
      → Takes sectors honest history old (call (got a)) new → Takes sectors honest history old (call no_memory) new
      → IsAnswered (Answers sectors honest history (MeansCall call (shown_reply reply_of)) old new) r
  shown call reply_of old new a (Ok reply) is fault takes takes_none = called call (shown_reply reply_of) old new (got a) (reply_view [] reply) is takes
  shown call reply_of old new a (Err fault) is same takes takes_none =
      called call (shown_reply reply_of) old new no_memory (refusal_of fault) (ap refusal_of same) takes_none

  -- a feature is shown, and its text reads as it, if there is memory for that
  pub looked : (id : ℕ) (old new : ServiceView D) (f : FeatureData) (r : Result Reply RequestFault)
      → IfOk r (λ reply. reply_view [] reply ≡ found_reply (Some f)) → IfOk r (λ reply. IsJson (reply_view [] reply).content (json_of f))
      → IfErr r (λ fault. fault ≡ Memory) → Takes sectors honest history old (look id (got (Some f))) new
      → Takes sectors honest history old (look id no_memory) new → IsAnswered (Answers sectors honest history (MeansLook id) old new) r
  looked id old new f (Ok reply) is reads fault takes takes_none = (look id (got (Some f)) ∷ [], (got (Some f), is, refl, reads), (new, takes, refl))
  looked id old new f (Err fault) is reads same takes takes_none =
      (look id no_memory ∷ [], (no_memory, ap refusal_of same, refl, tt), (new, takes_none, refl))

  -- the body says something, and the reply means that
  pub body_said : {A : Type 0} (Says : A → Type 0) (Has : RequestFault → Type 0) (Means : A → ReplyView → List Happening → Type 0) (a : A)
      (old new : ServiceView D) (reply : ReplyView) → Says a → Answers sectors honest history (Means a) old new reply
      → Answers sectors honest history (MeansBody Says Has Means) old new reply
  body_said Says Has Means a old new reply says is = (is.0, inl (a, says, is.1), is.2)

  -- it says what to edit, and a call was made for that
  pub edited : {A : Type 0} (before after : ℕ) (Says : A → Type 0) (Has : RequestFault → Type 0) (call : A → Result ℕ ServiceFault → Happening)
      (old new : ServiceView D) (a : A) (outcome : Result ℕ ServiceFault) (reply : ReplyView) → Says a → reply ≡ outcome_reply outcome
      → TellsDevice outcome before after → Takes sectors honest history old (call a outcome) new
      → Answers sectors honest history (MeansBody Says Has (λ (x : A). MeansEdit (HasFailed before after) (call x))) old new reply
  edited {A} before after Says Has call old new a outcome reply says is counts takes =
      body_said Says Has (λ (x : A). MeansEdit (HasFailed before after) (call x)) a old new reply says
      (changed before after (call a) outcome_reply old new outcome reply is counts takes)

  -- the body has a fault, or there is no memory
  pub body_refused : {A : Type 0} (Says : A → Type 0) (Has : RequestFault → Type 0) (Means : A → ReplyView → List Happening → Type 0)
      (fault : RequestFault) (old : ServiceView D) → (fault ≡ Memory) ⊎ Has fault
      → Answers sectors honest history (MeansBody Says Has Means) old old (refusal_of fault)
  body_refused Says Has Means fault old (inl is) = ([], inr (inr (ap refusal_of is, refl)), refl)
  body_refused Says Has Means fault old (inr is) = ([], inr (inl (fault, is, (refl, refl))), refl)

  pub no_memory_first : (IsMeant : ReplyView → List Happening → Type 0) (old new : ServiceView D) → new ≡ old
      → Answers sectors honest history (OrNoMemory IsMeant) old new (refusal_of Memory)
  no_memory_first IsMeant old new same = ([], inr (refl, refl), same)

  -- a whole publication was made
  pub published : (before after : ℕ) (old new : ServiceView D) (outcome : Result Published ServiceFault) (reply : ReplyView)
      → reply ≡ published_reply outcome → TellsDevice outcome before after → TakesPublication sectors honest history old outcome new
      → Answers sectors honest history (OrNoMemory (MeansPublish (HasFailed before after) (status_of old) (status_of new))) old new reply
  published before after old new (Ok p) reply is counts takes = (
    begin_and_steps (takes.before ++ takes.last ∷ []),
    inl (
      Ok p,
      is,
      tt,
      λ i. record { generation = takes.ends.1 i; edits = takes.ends.2 i; archive_len = takes.ends.3 i },
      takes.before,
      takes.unfinished,
      ap (λ (last : Result ℕ ServiceFault). begin_and_steps (takes.before ++ last ∷ [])) takes.ends.0,
    ),
    takes.takes,
  )
  published before after old new (Err fault) reply is counts takes = (
    begin_and_steps (takes.before ++ takes.last ∷ []),
    inl (
      Err fault,
      is,
      device_failed {A = Published} (Err fault) before after counts,
      tt,
      takes.before,
      takes.unfinished,
      ap (λ (last : Result ℕ ServiceFault). begin_and_steps (takes.before ++ last ∷ [])) takes.ends,
    ),
    takes.takes,
  )
