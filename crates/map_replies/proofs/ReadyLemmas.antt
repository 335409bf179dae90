-- When a publication in the making can begin, and what it is then.
use Rattle.std.proofs.Common.{◌≡◌, ◌⊎◌, inl, inr, ℕ, List, [], ◌∷◌, Bool, true, false, Option, Some, None, Result, Ok, Err, refl, sym, ap, subst, ◌∙◌}
use Rattle.std.specs.Prelude.{◌&&◌, not, IfSome, IsSome, OnOk, OnErr}
use Rattle.std.proofs.lemmas.Bool.{false≢true}
use Rattle.std.specs.Option.{is_some, option_map}
use Rattle.http_requests.specs.Requests.{RequestView}
use Rattle.http_serve.specs.Reply.{ReplyView}
use Rattle.sector_bytes.specs.Counts.{NeverFalls}
use Rattle.sector_disk.specs.Asked.{OnlyReads}
use Rattle.sector_disk.specs.Disk.{History}
use Rattle.tile_routes.specs.Methods.{method_on}
use Rattle.tile_routes.specs.Paths.{Asked, asked_action}
use Rattle.tile_routes.specs.declared.fault.RouteFault.{RouteFault}
use Rattle.tile_routes.specs.declared.method.Method.{Method}
use Rattle.tile_routes.specs.declared.method.Method.TheVariants.{Post}
use Rattle.tile_routes.specs.declared.target.Action.TheVariants.{Publish, PublishBegin}
use Rattle.tile_service.specs.Drafted.{DraftedView}
use Rattle.tile_service.specs.Machine.{Happening, cancel}
use Rattle.tile_service.specs.Prepared.{CanPrepare}
use Rattle.tile_service.specs.Service.{PublicationView, ServiceView, IsToldOf, IsUp, BeginsDrafted, drafted_now}
use Rattle.tile_service.specs.Stored.{Stored}
use Rattle.tile_service.specs.declared.drafting.Drafting.{Drafting}
use Rattle.tile_service.specs.declared.fault.ServiceFault.{ServiceFault}
use Rattle.map_replies.specs.declared.calls.Calls.{Calls}
use Rattle.map_replies.specs.declared.parts.Sending.{Sending}
use Rattle.map_replies.specs.declared.preparing.PreparingReplies.{PreparingReplies}
use Rattle.map_replies.specs.declared.service.MapReplies.{MapReplies}
use Rattle.map_replies.specs.declared.turns.Turns.{Turns}
use Rattle.map_replies.specs.Conditions.{AskView, needed, refuses}
use Rattle.map_replies.specs.Meanings.{asked_for}
use Rattle.map_replies.specs.Preparing.{IsReady, IsToBegin, IsToPublishWhole, MayPost, BeginsLate, PreparingStep, asks_to_publish, calls_publication, inner_service}
use Rattle.map_replies.specs.Preparing.{BeginsWhole, GivesUp, IsMadeReady, Prepares, PreparesTile, ReadsPart, beginning_of, has_begun, is_to_publish}
use Rattle.map_replies.specs.Preparing.{undrafted, undrafted_calls}
use Rattle.map_replies.specs.Sending.{SendsMethod}
use Rattle.map_replies.specs.Tickets.{KeepsTickets}
use Rattle.map_replies.specs.State.{access_of, asked_service}

-- what is told of a draft has its places
pub told_places : (drafting : Option DraftedView) (told : Option Drafting) → IsToldOf drafting told
    → option_map (λ (d : Drafting). d.places) told ≡ option_map (λ (d : DraftedView). d.places) drafting
told_places None None is = refl
told_places None (Some told) is = absurd is
told_places (Some d) None is = absurd is
told_places (Some d) (Some told) is = ap (λ (n : ℕ). Some n) is.1

pub none_if : {A : Type 0} (o : Option A) → is_some o ≡ false → o ≡ None
none_if None is = refl
none_if (Some a) is = absurd (false≢true (sym is))

none_there : {A B : Type 0} (f : A → B) (o : Option A) → is_some (option_map f o) ≡ false → o ≡ None
none_there f None is = refl
none_there f (Some a) is = absurd (false≢true (sym is))

one_there : {A B : Type 0} (f : A → B) (o : Option A) → is_some (option_map f o) ≡ true → (a : A) × (o ≡ Some a)
one_there f None is = absurd (false≢true is)
one_there f (Some a) is = (a, refl)

same_there : {A B : Type 0} (f : A → B) (o : Option A) → is_some (option_map f o) ≡ is_some o
same_there f None = refl
same_there f (Some a) = refl

of_draft : (size : ℕ) (o : Option DraftedView) (d : DraftedView) (outcome : Result ℕ ServiceFault) (publication : Option PublicationView)
    → o ≡ Some d → IfSome o (λ e. BeginsDrafted size e outcome publication) → BeginsDrafted size d outcome publication
of_draft size o d outcome publication is begins =
    subst (λ (q : Option DraftedView). IfSome q (λ e. BeginsDrafted size e outcome publication)) is begins

module _ {D : Type 0} where
  -- by what the service tells of itself
  pub ready_of : {A B C : Type 0} (service : ServiceView D) (left_of : PublicationView → A) (places_of : DraftedView → B) (places : C → B)
      (left : Option A) (told : Option C) → service.broken ≡ false → left ≡ option_map left_of service.publication → is_some left ≡ false
      → option_map places told ≡ option_map places_of service.drafting → is_some told ≡ true → IsReady service
  ready_of service left_of places_of places left told unbroken left_is none told_is some =
      let there = one_there places_of service.drafting
      (ap is_some (sym told_is) ∙ same_there places told ∙ some) in record {
        unbroken = unbroken;
        none = none_there left_of service.publication (ap is_some (sym left_is) ∙ none);
        draft = there.0;
        is = there.1;
      }

  pub begins_late : (old new : Calls D) (outcome : Result ℕ ServiceFault) (ready : IsReady old.service)
      → new ≡ record old { service = new.service }
      → new.service ≡ record old.service { publication = new.service.publication; drafting = None }
      → (old.service.broken ≡ false → old.service.publication ≡ None
      → IfSome old.service.drafting (λ d. BeginsDrafted old.service.size d outcome new.service.publication)) → BeginsLate old outcome new
  begins_late old new outcome ready same service begins = record {
    ready = ready;
    begins = of_draft old.service.size old.service.drafting ready.draft outcome new.service.publication ready.is (begins ready.unbroken ready.none);
    same = same ∙ ap (λ (s : ServiceView D). record old { service = s }) service;
  }

-- ---- a request for a call of a publication

module _ {D : Type 0} where
  pub to_begin : (old : MapReplies D) (request : RequestView) (asked : Asked) (name : List ℕ) → asked ≡ asked_for (access_of old) request
      → name ≡ request.method → (asked ≡ asked_action PublishBegin) × (method_on name asked ≡ Ok Post)
      → MayPost old request → IsToBegin old request
  to_begin old request asked name is same begins may = (
    sym is ∙ begins.0,
    subst (λ (a : Asked). method_on request.method a ≡ Ok Post) is (subst (λ (n : List ℕ). method_on n asked ≡ Ok Post) same begins.1),
    may,
  )

  pub to_publish : (old : MapReplies D) (request : RequestView) (asked : Asked) (name : List ℕ) → asked ≡ asked_for (access_of old) request
      → name ≡ request.method → (asked ≡ asked_action Publish) × (method_on name asked ≡ Ok Post)
      → MayPost old request → IsToPublishWhole old request
  to_publish old request asked name is same publishes may = (
    sym is ∙ publishes.0,
    subst (λ (a : Asked). method_on request.method a ≡ Ok Post) is (subst (λ (n : List ℕ). method_on n asked ≡ Ok Post) same publishes.1),
    may,
  )

-- A request that calls one asks for it.
asked_unless : (refused asks : Bool) → not refused && asks ≡ true → asks ≡ true
asked_unless true asks is = absurd (false≢true is)
asked_unless false asks is = is

pub calls_asks : (asked : Asked) (method : Result Method RouteFault) (ask : AskView) → calls_publication asked method ask ≡ true
    → asks_to_publish asked ≡ true
calls_asks asked (Ok method) ask is = asked_unless (refuses (needed ask) method) (asks_to_publish asked) is
calls_asks asked (Err fault) ask is = absurd (false≢true is)

module _ {D : Type 0} (sectors : D → ℕ) (honest : D → Type 0) (history : D → History) (faults : D → ℕ) where
  -- none is answered with the archive
  pub sends_nothing : (asked target : Asked) (method : Result Method RouteFault) (ask : AskView) (old : ServiceView D) (sending : Sending)
      (new : ServiceView D) (view : ReplyView) → asked ≡ target → asks_to_publish target ≡ true
      → SendsMethod sectors honest history faults asked method ask old sending new view → ⊥
  sends_nothing asked target method ask old sending new view same publishes sent =
      false≢true (sym (ap asks_to_publish (sym same ∙ sent.3.0)) ∙ publishes)

-- ---- outcomes

pub on_ok : {A E : Type 0} (r : Result A E) (P Q : Type 0) → (P → Q) → OnOk r P → OnOk r Q
on_ok (Ok a) P Q f is = f is
on_ok (Err e) P Q f is = tt

pub on_err : {A E : Type 0} (r : Result A E) (P Q : Type 0) → (P → Q) → OnErr r P → OnErr r Q
on_err (Ok a) P Q f is = tt
on_err (Err e) P Q f is = f is

-- ---- a step of a preparation

module _ {D : Type 0} where
  -- what it does to the publication in the making
  abbrev Drafted : (old new : ServiceView D) → Type 0
  Drafted old new = (new.drafting ≡ old.drafting) ⊎ (new.drafting ≡ None) ⊎ (CanPrepare old × (new.drafting ≡ Some (drafted_now old)))

  drafted_by_step : {A E : Type 0} (r : Result A E) (old new : ServiceView D) (draft : Option DraftedView) → old.drafting ≡ draft
      → (old.drafting ≡ None → OnOk r (new.drafting ≡ Some (drafted_now old))) → (old.drafting ≡ None → OnOk r (CanPrepare old))
      → (IsSome old.drafting → OnOk r (new.drafting ≡ old.drafting)) → OnErr r (new.drafting ≡ None) → Drafted old new
  drafted_by_step (Err e) old new draft is begins can goes_on refused = inr (inl refused)
  drafted_by_step (Ok a) old new None is begins can goes_on refused = inr (inr (can is, begins is))
  drafted_by_step (Ok a) old new (Some d) is begins can goes_on refused =
      inl (goes_on (subst (λ (o : Option DraftedView). IsSome o) (sym is) refl))

-- what comes of a step, where no whole publication is prepared
with_none : {A B C E N : Type 0} → A ⊎ B ⊎ (C × E) → N → A ⊎ B ⊎ (C × E × N)
with_none (inl a) none = inl a
with_none (inr (inl b)) none = inr (inl b)
with_none (inr (inr is)) none = inr (inr (is.0, is.1, none))

module _ {D : Type 0} (sectors : D → ℕ) (honest : D → Type 0) (history : D → History) (faults : D → ℕ) where
  abbrev Step : (old new : PreparingReplies D) → Type 0
  Step = PreparingStep sectors honest history faults

  abbrev Prepared : (old new : PreparingReplies D) → Type 0
  Prepared = Prepares sectors honest history faults

  -- the whole publication that is prepared stays, or is none that has begun
  abbrev WholeStays : (old new : PreparingReplies D) → Type 0
  WholeStays old new = (beginning_of new ≡ beginning_of old) ⊎ ((beginning_of new ≡ None) × (has_begun old ≡ false))

  -- the same replies, with another service
  abbrev pub with_service : PreparingReplies D → ServiceView D → MapReplies D
  with_service old service = record old.replies { calls = record old.replies.calls { service = service } }

  abbrev StaysUp : (old new : PreparingReplies D) → Type 0
  StaysUp old new = (stored : Stored) → IsUp (sectors (inner_service old).disk) (history (inner_service old).disk) stored (inner_service old)
      → IsUp (sectors (inner_service new).disk) (history (inner_service new).disk) stored (inner_service new)

  pub step_nothing : (old new : PreparingReplies D) → new.replies ≡ old.replies → WholeStays old new → Step old new
  step_nothing old new same whole = record {
    same = same ∙ ap (λ (o : Option DraftedView). with_service old (record (inner_service old) { drafting = o }))
        (sym (ap (λ (r : MapReplies D). (asked_service r).drafting) same));
    draft = inl (ap (λ (r : MapReplies D). (asked_service r).drafting) same);
    whole = whole;
    up = λ stored up. subst (λ (s : ServiceView D). IsUp (sectors s.disk) (history s.disk) stored s)
        (sym (ap (λ (r : MapReplies D). asked_service r) same)) up;
  }

  pub prepares_nothing : (old new : PreparingReplies D) → new.replies ≡ old.replies → beginning_of new ≡ beginning_of old → Prepared old new
  prepares_nothing old new same whole = inl (step_nothing old new same (inl whole))

  pub prepares_by : {A E : Type 0} (old new : PreparingReplies D) (r : Result A E) → beginning_of old ≡ None → beginning_of new ≡ beginning_of old
      → new.replies ≡ with_service old (inner_service new)
      → inner_service new ≡ record (inner_service old) { drafting = (inner_service new).drafting }
      → ((inner_service old).drafting ≡ None → OnOk r ((inner_service new).drafting ≡ Some (drafted_now (inner_service old))))
      → ((inner_service old).drafting ≡ None → OnOk r (CanPrepare (inner_service old)))
      → (IsSome (inner_service old).drafting → OnOk r ((inner_service new).drafting ≡ (inner_service old).drafting))
      → OnErr r ((inner_service new).drafting ≡ None) → StaysUp old new → Prepared old new
  prepares_by old new r none whole replies same begins can goes_on refused up = inl (record {
    same = replies ∙ ap (with_service old) same;
    draft = with_none (drafted_by_step r (inner_service old) (inner_service new) (inner_service old).drafting refl begins can goes_on refused)
        (whole ∙ none);
    whole = inl whole;
    up = up;
  })

  -- the publication in the making is dropped
  pub prepares_dropped : (old new : PreparingReplies D) → beginning_of new ≡ beginning_of old → new.replies ≡ with_service old (inner_service new)
      → inner_service new ≡ undrafted (inner_service old) → StaysUp old new → Prepared old new
  prepares_dropped old new whole replies same up =
      let none : (inner_service new).drafting ≡ None = ap (λ (s : ServiceView D). s.drafting) same in
      inl (record {
        same = replies ∙ ap (with_service old)
            (same ∙ ap (λ (o : Option DraftedView). record (inner_service old) { drafting = o }) (sym none));
        draft = inr (inl none);
        whole = inl whole;
        up = up;
      })

  -- the whole publication that is prepared is given up
  pub given_up : (old new : PreparingReplies D) → GivesUp sectors honest history faults old new → Prepared old new
  given_up old new (none, inl is) = inl (step_nothing old new is.1 (inr (none, is.0)))
  given_up old new (none, inr is) = inr (inr (inr (inl (is.0, (is.1, none, is.2, is.3)))))

  -- the whole publication begins after a step that left nothing to prepare
  pub unchanged_by : (old new : ServiceView D) → IsReady old → new ≡ record old { drafting = new.drafting }
      → (IsSome old.drafting → new.drafting ≡ old.drafting) → new ≡ old
  unchanged_by old new ready same goes_on =
      same ∙ ap (λ (o : Option DraftedView). record old { drafting = o })
      (goes_on (subst (λ (o : Option DraftedView). IsSome o) (sym ready.is) refl))

  pub begins_from : (old new : PreparingReplies D) (service : ServiceView D) (outcome : Result ℕ ServiceFault) → service ≡ inner_service old
      → BeginsWhole sectors honest history faults (record old { replies = with_service old service }) outcome new
      → BeginsWhole sectors honest history faults old outcome new
  begins_from old new service outcome same is =
      subst (λ (s : ServiceView D). BeginsWhole sectors honest history faults (record old { replies = with_service old s }) outcome new) same is

  -- whoever has the turn
  pub prepares_at : (old new : PreparingReplies D) (turns : Turns) (is_next : Bool)
      → Prepared (record old { turns = turns; is_next = is_next }) new → Prepared old new
  prepares_at old new turns is_next (inl is) = inl (record { same = is.same; draft = is.draft; whole = is.whole; up = is.up })
  prepares_at old new turns is_next (inr (inl is)) = inr (inl is)
  prepares_at old new turns is_next (inr (inr (inl is))) = inr (inr (inl is))
  prepares_at old new turns is_next (inr (inr (inr (inl is)))) = inr (inr (inr (inl is)))
  prepares_at old new turns is_next (inr (inr (inr (inr is)))) = inr (inr (inr (inr (record {
    same = is.same;
    whole = is.whole;
    disk = is.disk;
    never_falls = is.never_falls;
    untouched = is.untouched;
    held = is.held;
    up = is.up;
  }))))

  -- ---- a tile that is made or read by parts

  abbrev Part : (old new : PreparingReplies D) → Type 0
  Part = ReadsPart sectors honest history faults

  -- for whichever request comes next
  pub tile_at : (old new : PreparingReplies D) (is_next : Bool) → PreparesTile sectors honest history faults (record old { is_next = is_next }) new
      → PreparesTile sectors honest history faults old new
  tile_at old new is_next (inl is) = inl is
  tile_at old new is_next (inr is) = inr (record {
    same = is.same;
    whole = is.whole;
    disk = is.disk;
    never_falls = is.never_falls;
    untouched = is.untouched;
    held = is.held;
    up = is.up;
  })

  -- of the same replies
  pub part_on : (old new other : PreparingReplies D) → other.replies ≡ new.replies → beginning_of other ≡ beginning_of new → Part old new → Part old other
  part_on old new other same whole is = record {
    same = same ∙ is.same ∙ ap (λ (r : MapReplies D). with_service old (record (inner_service old) {
      disk = (asked_service r).disk;
      published = (asked_service r).published;
    })) (sym same);
    whole = whole ∙ is.whole;
    disk = subst (λ (r : MapReplies D). OnlyReads sectors honest history (inner_service old).disk (asked_service r).disk) (sym same) is.disk;
    never_falls = subst (λ (r : MapReplies D). NeverFalls (faults (inner_service old).disk) (faults (asked_service r).disk)) (sym same) is.never_falls;
    untouched = λ broken. same ∙ is.untouched broken;
    held = subst (λ (r : MapReplies D). KeepsTickets honest history old.replies.calls r.calls) (sym same) is.held;
    up = subst (λ (r : MapReplies D). (stored : Stored)
        → IsUp (sectors (inner_service old).disk) (history (inner_service old).disk) stored (inner_service old) → honest (asked_service r).disk
        → IsUp (sectors (asked_service r).disk) (history (asked_service r).disk) stored (asked_service r)) (sym same) is.up;
  }

  -- ---- before the answer to a call of a publication

  -- it is dropped, or given up
  pub made_ready : (old middle : PreparingReplies D) (request : RequestView) (ready : MapReplies D) → GivesUp sectors honest history faults old middle
      → ready ≡ record middle.replies { calls = undrafted_calls middle.replies.calls } → is_to_publish old.replies request ≡ true
      → (done : List Happening) × IsMadeReady sectors honest history faults old request done ready (beginning_of middle)
  made_ready old middle request ready (none, inl is) same calls = (
    [],
    inr (inl (refl, same ∙ ap (λ (r : MapReplies D). record r { calls = undrafted_calls r.calls }) is.1, none, is.0, calls)),
  )
  made_ready old middle request ready (none, inr is) same calls = (
    cancel is.0 ∷ [],
    inr (inr (
      is.0,
      middle.replies.calls,
      refl,
      same ∙ ap (λ (r : MapReplies D). record r { calls = undrafted_calls middle.replies.calls }) is.2,
      none,
      is.1,
      is.3,
      calls,
    )),
  )
