-- Happenings, between which downloads are read and a publication is prepared.
use Rattle.std.proofs.Common.{◌≡◌, ℕ, List, [], ◌∷◌, ◌++◌, Option, Some, None, Result, Ok, Err, Bool, true, false, inl, inr, refl, sym, ap, subst}
use Rattle.std.proofs.Common.{◌∙◌, append_assoc}
use Rattle.std.proofs.lemmas.List.{append-nil}
use Rattle.sector_disk.specs.Disk.{History}
use Rattle.sector_disk.proofs.AskedLaws.{reads_none}
use Rattle.service_laws.specs.Beside.{IsBeside, AreBeside}
use Rattle.service_laws.specs.Moments.{WasRead}
use Rattle.tile_service.specs.declared.fault.ServiceFault.{ServiceFault}
use Rattle.tile_service.specs.declared.fault.ServiceFault.TheVariants.{Device}
use Rattle.tile_service.specs.Drafted.{DraftedView}
use Rattle.tile_service.specs.Machine.{Happening, edit, begin, step, cancel, check}
use Rattle.tile_service.specs.Runs.{IsDoubtful, Takes, TakesAll}
use Rattle.tile_service.specs.Service.{ServiceView, KeepsDraft}
use Rattle.tile_service.proofs.Publications.Drafts.{up_drafting}
use Rattle.tile_service.proofs.Runs.Callers.{was_before}
use Rattle.map_replies.proofs.Apart.{IsApart, AreApart}
use Rattle.map_replies.proofs.Passing.{Passes, passes_on, passes_read, read_none, read_on}
use Rattle.map_replies.specs.Preparing.{undrafted}

-- ---- what is no call of a publication, and didn't fail on the disk

beside : (happening : Happening) → IsApart happening → (IsDoubtful happening → ⊥) → IsBeside happening
beside (edit call e (Err Device)) apart sure = sure tt
beside (edit call e outcome) apart sure = tt
beside (begin outcome) apart sure = apart
beside (step outcome) apart sure = apart
beside (cancel outcome) apart sure = apart
beside (check (Err Device)) apart sure = sure tt
beside (check outcome) apart sure = tt
beside happening apart sure = tt

-- ---- drafts

draft_on : (first middle last : Option DraftedView) → KeepsDraft first middle → KeepsDraft middle last → KeepsDraft first last
draft_on first middle last before (inr gone) = inr gone
draft_on first middle last (inl same) (inl stays) = inl (stays ∙ same)
draft_on first middle last (inr gone) (inl stays) = inr (stays ∙ gone)

module _ {D : Type 0} (sectors : D → ℕ) (honest : D → Type 0) (history : D → History) where
  -- a draft is as it was after any happenings, or gone
  pub draft_after : (old new : ServiceView D) (happenings : List Happening) → TakesAll sectors honest history old happenings new
      → KeepsDraft old.drafting new.drafting
  draft_after old new [] same = inl (ap (λ (s : ServiceView D). s.drafting) same)
  draft_after old new (happening ∷ happenings) all =
      draft_on old.drafting all.0.drafting new.drafting all.1.drafting (draft_after all.0 new happenings all.2)

  -- ---- between two calls

  -- the service was read, or prepared
  abbrev pub Rests : (old new : ServiceView D) → Type 0
  Rests = WasRead sectors honest history

  pub rests_none : (s : ServiceView D) → Rests s s
  rests_none = read_none sectors honest history

  pub rests_on : (old middle new : ServiceView D) → Rests old middle → Rests middle new → Rests old new
  rests_on = read_on sectors honest history

  -- the publication in the making was dropped
  pub rests_undrafted : (s : ServiceView D) → Rests s (undrafted s)
  rests_undrafted s = record {
    same = refl;
    disk = reads_none s.disk;
    up = λ stored up is_honest. up_drafting (sectors s.disk) (history s.disk) stored s up None tt;
  }

  -- ---- calls

  -- The happenings in order, with such between them.
  abbrev pub Goes : ServiceView D → List Happening → ServiceView D → Type 0
  Goes old [] new = Rests old new
  Goes old (happening ∷ happenings) new = (from : ServiceView D) × (at : ServiceView D) × Rests old from × Takes sectors honest history from happening at
      × Goes at happenings new

  pub goes_later : (old middle new : ServiceView D) (happenings : List Happening) → Rests old middle → Goes middle happenings new → Goes old happenings new
  goes_later old middle new [] rests goes = rests_on old middle new rests goes
  goes_later old middle new (happening ∷ happenings) rests goes =
      (goes.0, goes.1, rests_on old middle goes.0 rests goes.2, goes.3, goes.4)

  pub goes_all : (old middle new : ServiceView D) (happenings : List Happening) → Rests old middle
      → TakesAll sectors honest history middle happenings new → Goes old happenings new
  goes_all old middle new [] rests same = subst (λ (s : ServiceView D). Rests old s) (sym same) rests
  goes_all old middle new (happening ∷ happenings) rests all =
      (middle, all.0, rests, all.1, goes_all all.0 all.0 new happenings (rests_none all.0) all.2)

  pub goes_on : (old middle new : ServiceView D) (before after : List Happening) → Goes old before middle → Goes middle after new
      → Goes old (before ++ after) new
  goes_on old middle new [] after first then = goes_later old middle new after first then
  goes_on old middle new (happening ∷ before) after first then =
      (first.0, first.1, first.2, first.3, goes_on first.1 middle new before after first.4 then)

  pub goes_rest : (old middle new : ServiceView D) (happenings : List Happening) → Goes old happenings middle → Rests middle new → Goes old happenings new
  goes_rest old middle new [] goes rests = rests_on old middle new goes rests
  goes_rest old middle new (happening ∷ happenings) goes rests =
      (goes.0, goes.1, goes.2, goes.3, goes_rest goes.1 middle new happenings goes.4 rests)

  pub sized : (old new : ServiceView D) (happenings : List Happening) → Goes old happenings new → new.size ≡ old.size
  sized old new [] rests = ap (λ (s : ServiceView D). s.size) rests.same
  sized old new (happening ∷ happenings) goes =
      sized goes.1 new happenings goes.4 ∙ goes.3.size ∙ ap (λ (s : ServiceView D). s.size) goes.2.same

  -- A service that isn't broken after them wasn't before, and if none is a call of a publication all are beside one.
  pub all_beside : (old new : ServiceView D) (happenings : List Happening) → AreApart happenings → Goes old happenings new → new.broken ≡ false
      → (old.broken ≡ false) × AreBeside happenings
  all_beside old new [] apart rests unbroken = (sym (ap (λ (s : ServiceView D). s.broken) rests.same) ∙ unbroken, tt)
  all_beside old new (happening ∷ happenings) apart goes unbroken =
      let later = all_beside goes.1 new happenings apart.1 goes.4 unbroken in
      let here = was_before sectors honest history goes.0 goes.1 happening goes.3 later.0 in (
        sym (ap (λ (s : ServiceView D). s.broken) goes.2.same) ∙ here.0,
        (beside happening apart.0 here.1, later.1),
      )

  -- The states of the calls are those of a run.
  pub passes_goes : (first now new : ServiceView D) (before more : List Happening) → Passes sectors honest history first before now → Goes now more new
      → Passes sectors honest history first (before ++ more) new
  passes_goes first now new before [] so rests =
      subst (λ (l : List Happening). Passes sectors honest history first l new) (sym (append-nil before))
      (passes_read sectors honest history first now new before so rests.same rests.disk rests.up)
  passes_goes first now new before (happening ∷ more) so goes =
      subst (λ (l : List Happening). Passes sectors honest history first l new) (append_assoc before (happening ∷ []) more)
      (passes_goes first goes.1 new (before ++ happening ∷ []) more
      (passes_on sectors honest history first goes.0 goes.1 before happening
      (passes_read sectors honest history first now goes.0 before so goes.2.same goes.2.disk goes.2.up) goes.3) goes.4)
