-- From which generation on archives can be read, after each call.
use Rattle.std.proofs.Common.{◌≡◌, inl, inr, ℕ, List, [], ◌∷◌, ◌++◌, Result, Ok, Err, Bool, true, false, refl, ap, subst, ◌∙◌, arith}
use Rattle.std.specs.Prelude.{All, map}
use Rattle.http_serve.specs.Reply.{ReplyView, reply_view}
use Rattle.http_serve.specs.declared.replies.Reply.{Reply}
use Rattle.sector_disk.specs.Disk.{History}
use Rattle.tile_routes.specs.Paths.{Asked, asked_action}
use Rattle.tile_routes.specs.declared.target.Action.TheVariants.{Publish, PublishStep}
use Rattle.tile_service.specs.Machine.{Happening, AnswersStep, begin, step}
use Rattle.tile_service.specs.Runs.{IsUnfinished, TakesAll, TakesPublication, TakesRest, begin_and_steps}
use Rattle.tile_service.specs.Service.{ServiceView, Known, state_of, known_after}
use Rattle.tile_service.specs.declared.fault.ServiceFault.{ServiceFault}
use Rattle.tile_service.specs.declared.fault.ServiceFault.TheVariants.{Device}
use Rattle.tile_service.specs.declared.publishing_whole.Published.{Published}
use Rattle.map_replies.specs.declared.calls.Calls.{Calls}
use Rattle.map_replies.specs.declared.fault.RequestFault.{RequestFault}
use Rattle.map_replies.specs.Tickets.{oldest_after, KeepsArchives, KeepsOldest}
use Rattle.map_replies.specs.Words.{left_reply, published_reply}

module _ {D : Type 0} where
  -- a call that makes no step leaves them
  pub archives_stay : (asked : Asked) (r : Result Reply RequestFault) (old new : Calls D) → new.oldest ≡ old.oldest → KeepsArchives asked r old new
  archives_stay asked (Ok reply) old new same = inl same
  archives_stay asked (Err fault) old new same = same

  -- what the fault Device leaves
  abbrev Breaks : Calls D → Calls D → Type 0
  Breaks old new = (old.service.broken ≡ false) × (new.service.broken ≡ true)

  -- a step, by the reply to its outcome
  pub stepped_oldest : (outcome : Result ℕ ServiceFault) (reply : Reply) (old new : Calls D) → reply_view [] reply ≡ left_reply outcome
      → new.oldest ≡ oldest_after outcome old.oldest old.service.generation → (outcome ≡ Err Device → Breaks old new)
      → KeepsOldest (asked_action PublishStep) (reply_view [] reply).status old new
  stepped_oldest (Ok left) reply old new is after breaks = inr (refl, inl (ap (λ (v : ReplyView). v.status) is), after)
  stepped_oldest (Err Device) reply old new is after breaks = let broken = breaks refl in
      inr (refl, inr (ap (λ (v : ReplyView). v.status) is, broken.0, broken.1), after)
  stepped_oldest (Err fault) reply old new is after breaks = inl after

  -- and a whole publication
  pub published_oldest : (outcome : Result Published ServiceFault) (reply : Reply) (old new : Calls D) → reply_view [] reply ≡ published_reply outcome
      → new.oldest ≡ oldest_after outcome old.oldest old.service.generation → (outcome ≡ Err Device → Breaks old new)
      → KeepsOldest (asked_action Publish) (reply_view [] reply).status old new
  published_oldest (Ok published) reply old new is after breaks = inr (refl, inl (ap (λ (v : ReplyView). v.status) is), after)
  published_oldest (Err Device) reply old new is after breaks = let broken = breaks refl in
      inr (refl, inr (ap (λ (v : ReplyView). v.status) is, broken.0, broken.1), after)
  published_oldest (Err fault) reply old new is after breaks = inl after

  -- by the reply
  pub published_by_reply : (outcome : Result Published ServiceFault) (reply : ReplyView) (old new : Calls D) → reply ≡ published_reply outcome
      → new.oldest ≡ oldest_after outcome old.oldest old.service.generation → (outcome ≡ Err Device → Breaks old new)
      → KeepsOldest (asked_action Publish) reply.status old new
  published_by_reply (Ok published) reply old new is after breaks = inr (refl, inl (ap (λ (v : ReplyView). v.status) is), after)
  published_by_reply (Err Device) reply old new is after breaks = let broken = breaks refl in
      inr (refl, inr (ap (λ (v : ReplyView). v.status) is, broken.0, broken.1), after)
  published_by_reply (Err fault) reply old new is after breaks = inl after

-- ---- Device breaks the service

abbrev the_error : ServiceFault → Result Published ServiceFault
the_error fault = Err fault

abbrev nothing_known : Known
nothing_known = record { archive = record { bytes = []; features = [] }; publishing = [] }

module _ {D : Type 0} where
  -- at a step
  pub breaks_at_step : (old new : ServiceView D) (outcome : Result ℕ ServiceFault) → outcome ≡ Err Device
      → ((known : Known) → AnswersStep (state_of known old) outcome (state_of (known_after known old (step outcome)) new))
      → (old.broken ≡ false) × (new.broken ≡ true)
  breaks_at_step old new (Ok left) is machine = absurd (cc)
  breaks_at_step old new (Err Device) is machine =
      let at = machine nothing_known in (at.0, ap (λ s. s.broken) at.2)
  breaks_at_step old new (Err fault) is machine = absurd (cc)

module _ {D : Type 0} (sectors : D → ℕ) (honest : D → Type 0) (history : D → History) where
  -- at the last of some steps
  breaks_at_last : (before : List (Result ℕ ServiceFault)) (old new : ServiceView D)
      → TakesAll sectors honest history old (map step (before ++ Err Device ∷ [])) new → new.broken ≡ true
  breaks_at_last [] old new all = ap (λ (s : ServiceView D). s.broken) all.2 ∙ all.1.doubt tt
  breaks_at_last (outcome ∷ before) old new all = breaks_at_last before all.0 new all.2

  -- at the last call of a whole publication, which isn't its beginning
  breaks_at_end : (before : List (Result ℕ ServiceFault)) (old new : ServiceView D) → All IsUnfinished before
      → TakesAll sectors honest history old (begin_and_steps (before ++ Err Device ∷ [])) new → (old.broken ≡ false) × (new.broken ≡ true)
  breaks_at_end [] old new unfinished all = absurd ((all.1.machine nothing_known).1)
  breaks_at_end (Ok left ∷ before) old new unfinished all = ((all.1.machine nothing_known).unbroken, breaks_at_last before all.0 new all.2)
  breaks_at_end (Err fault ∷ before) old new unfinished all = absurd (unfinished 0 (Ok 0) (omega arith))

  fault_of : (fault : ServiceFault) → ((the_error fault) ≡ (the_error Device)) → fault ≡ Device
  fault_of fault is = cc

  pub breaks_in_run : (old new : ServiceView D) (outcome : Result Published ServiceFault) → outcome ≡ Err Device
      → TakesPublication sectors honest history old outcome new → (old.broken ≡ false) × (new.broken ≡ true)
  breaks_in_run old new (Ok published) is run = absurd (cc)
  breaks_in_run old new (Err fault) is run =
      breaks_at_end run.before old new run.unfinished
      (subst (λ (l : Result ℕ ServiceFault). TakesAll sectors honest history old (begin_and_steps (run.before ++ l ∷ [])) new)
      (run.ends ∙ ap (λ (f : ServiceFault). Err f) (fault_of fault is)) run.takes)

  -- at the last of the steps that are left of one
  pub breaks_in_rest : (old new : ServiceView D) (outcome : Result Published ServiceFault) → outcome ≡ Err Device
      → TakesRest sectors honest history old outcome new → new.broken ≡ true
  breaks_in_rest old new (Ok published) is run = absurd (cc)
  breaks_in_rest old new (Err fault) is run =
      breaks_at_last run.before old new
      (subst (λ (l : Result ℕ ServiceFault). TakesAll sectors honest history old (map step (run.before ++ l ∷ [])) new)
      (run.ends ∙ ap (λ (f : ServiceFault). Err f) (fault_of fault is)) run.takes)

  -- it wasn't broken before the first of them
  unbroken_at_first : (before : List (Result ℕ ServiceFault)) (old new : ServiceView D) → All IsUnfinished before
      → TakesAll sectors honest history old (map step (before ++ Err Device ∷ [])) new → old.broken ≡ false
  unbroken_at_first [] old new unfinished all = (all.1.machine nothing_known).0
  unbroken_at_first (Ok left ∷ before) old new unfinished all = (all.1.machine nothing_known).0.unbroken
  unbroken_at_first (Err fault ∷ before) old new unfinished all = absurd (unfinished 0 (Ok 0) (omega arith))

  pub unbroken_before_rest : (old new : ServiceView D) (outcome : Result Published ServiceFault) → outcome ≡ Err Device
      → TakesRest sectors honest history old outcome new → old.broken ≡ false
  unbroken_before_rest old new (Ok published) is run = absurd (cc)
  unbroken_before_rest old new (Err fault) is run =
      unbroken_at_first run.before old new run.unfinished
      (subst (λ (l : Result ℕ ServiceFault). TakesAll sectors honest history old (map step (run.before ++ l ∷ [])) new)
      (run.ends ∙ ap (λ (f : ServiceFault). Err f) (fault_of fault is)) run.takes)
