-- What a run leaves of a disk, event by event.
use Rattle.std.proofs.Common.{◌≡◌, ◌⊎◌, inl, inr, ⊎_elim, ℕ, suc, zero, ◌≤◌, ◌<◌, ◌+◌, ◌-◌, ◌==◌, Bool, true, false, List, [], ◌∷◌, ◌++◌, length}
use Rattle.std.proofs.Common.{take, get_or, if◌then◌else◌, Option, Some, None, Result, Ok, Err, refl, sym, ◌∙◌, ap, subst, arith, length-append}
use Rattle.std.specs.Prelude.{IfSome}
use Rattle.std.proofs.lemmas.Bool.{cases_eq}
use Rattle.std.proofs.lemmas.Bool.Decides.{nat_tests}
use Rattle.std.proofs.lemmas.List.{take-append-le, take_all, append-nil, length-take-le}
use Rattle.sector_disk.specs.Disk.{History, Image, MayLeave, moment, LeftSince}
use Rattle.sector_disk.specs.Moments.{Follows, LeavesOnly}
use Rattle.sector_disk.proofs.History.{left_before}
use Rattle.sector_disk.proofs.Moments.{since_now, only_now, is_later, follows_itself}
use Rattle.edit_text.specs.Recorded.{RecordedEdit}
use Rattle.tile_service.specs.Machine.{no_memory, Happening, Call, edit, step, check, look}
use Rattle.tile_service.specs.Runs.{edits_by, IsDoubtful, happening_at, all_edits, published_by, IsInDoubt}
use Rattle.tile_service.specs.Runs.{Way, way_of, Progress, starts, progress_after, progress_of}
use Rattle.tile_service.specs.Runs.{IsStepInDoubt, fitting, Fits, ImageFits, NoneInDoubt, RunFits, Reaches}
use Rattle.tile_service.specs.Service.{PublicationView, left_of, EventLeaves, IsLast, installed, stored_after}
use Rattle.tile_service.specs.Stored.{Stored, Holds, Keeps, with_edit}
use Rattle.tile_service.specs.declared.fault.ServiceFault.{ServiceFault}
use Rattle.tile_service.specs.declared.fault.ServiceFault.TheVariants.{Device}
use Rattle.tile_service.proofs.Runs.Progress.{Within, IsSince, Has, all_edits_on, progress_on, all_split_at, all_of_more, progress_edits, progress_within}
use Rattle.tile_service.proofs.Runs.Progress.{fits_more, has_start, has_edit, has_published, has_on}
use Rattle.tile_service.proofs.Runs.OneEvent.{doubtful_or_not, IsQuiet}

-- ---- an event in doubt

pub below : {A : Type 0} (xs ys : List A) (i : ℕ) (d : A) → i < length xs → get_or (xs ++ ys) i d ≡ get_or xs i d
below [] ys i d lt = absurd (omega (arith, lt))
below (x ∷ xs) ys zero d lt = refl
below (x ∷ xs) ys (suc i) d lt = below xs ys i d (omega (arith, lt))

pub last_is : {A : Type 0} (xs : List A) (x d : A) (i : ℕ) → i ≡ length xs → get_or (xs ++ x ∷ []) i d ≡ x
last_is [] x d zero is = refl
last_is [] x d (suc i) is = absurd (omega (arith, is))
last_is (y ∷ xs) x d zero is = absurd (omega (arith, is))
last_is (y ∷ xs) x d (suc i) is = last_is xs x d i (omega (arith, is))

pub one_more : {A : Type 0} (xs : List A) (x : A) → length (xs ++ x ∷ []) ≡ length xs + 1
one_more xs x = length-append xs (x ∷ [])

-- The disk failed at one of them says that the service is broken.
pub doubt_breaks : (events : List Happening) (event : Happening) (old new : Bool) → (IsDoubtful event → new ≡ true) → (old ≡ true → new ≡ true)
    → ((index : ℕ) → index < length events → IsDoubtful (happening_at events index) → old ≡ true)
    → (index : ℕ) → index < length (events ++ event ∷ []) → IsDoubtful (happening_at (events ++ event ∷ []) index) → new ≡ true
doubt_breaks events event old new breaks stays before index lt is = ⊎_elim
    (λ (last : index ≡ length events). breaks (subst IsDoubtful (last_is events event (look 0 no_memory) index last) is))
    (λ (sooner : index ≡ length events → ⊥).
    let lt' : index < length events = omega (arith, sooner, lt, one_more events event) in
    stays (before index lt' (subst IsDoubtful (below events (event ∷ []) index (look 0 no_memory) lt') is)))
    (cases_eq index (length events))

module _ (events : List Happening) (event : Happening) where
  -- an edit stays in doubt
  doubt_stays : (e : RecordedEdit) → IsInDoubt events e → IsInDoubt (events ++ event ∷ []) e
  doubt_stays e doubt = record {
    index = doubt.index;
    within = omega (arith, doubt.within, one_more events event);
    call = doubt.call;
    is = below events (event ∷ []) doubt.index (look 0 no_memory) doubt.within ∙ doubt.is;
  }

  -- and so does a step
  step_stays : (p : Progress) (index j : ℕ) → IsStepInDoubt p events index j → IsStepInDoubt p (events ++ event ∷ []) index j
  step_stays p index j doubt = record {
    within = omega (arith, doubt.within, one_more events event);
    is = below events (event ∷ []) index (look 0 no_memory) doubt.within ∙ doubt.is;
    way = doubt.way;
    under_way = ap (λ (l : List Happening). (progress_of p l).under_way) (take-append-le index events (event ∷ []) (omega (arith, doubt.within)))
        ∙ doubt.under_way;
    last = doubt.last;
    edits_are = doubt.edits_are;
  }

  -- the last edit is, where the disk failed
  last_in_doubt : (call : Call) (e : RecordedEdit) → event ≡ edit call e (Err Device) → IsInDoubt (events ++ event ∷ []) e
  last_in_doubt call e is = record {
    index = length events;
    within = omega (arith, one_more events event);
    call = call;
    is = last_is events event (look 0 no_memory) (length events) refl ∙ is;
  }

  -- and so is the last step
  last_step : (start : Stored) (p : Progress) (publication : PublicationView) → event ≡ step (Err Device)
      → way_of start.edits (Some publication) ≡ (progress_of p events).under_way → IsLast (Some publication)
      → IsStepInDoubt p (events ++ event ∷ []) (length events) (publication.start.edits - start.edits)
  last_step start p publication is way_is last = record {
    within = omega (arith, one_more events event);
    is = last_is events event (look 0 no_memory) (length events) refl ∙ is;
    way = record { edits = publication.start.edits - start.edits; left = left_of publication };
    under_way = ap (λ (l : List Happening). (progress_of p l).under_way)
        (take-append-le (length events) events (event ∷ []) (omega arith) ∙ take_all (length events) events (omega arith)) ∙ sym way_is;
    last = last;
    edits_are = refl;
  }

-- ---- images

-- The image holds these edits, this many of them in its snapshot.
abbrev Whole : (sectors n : ℕ) → Stored → List RecordedEdit → (j : ℕ) → Image → Type 0
Whole sectors n start edits j image = Fits sectors n start edits (length edits) j image

-- It holds what is stored after these events.
abbrev pub Settles : (sectors n : ℕ) → Stored → Option Way → List Happening → Image → Type 0
Settles sectors n start way events image = Whole sectors n start (all_edits start events) (published_by start way events) image

-- It holds these edits and one in doubt, or has a publication in doubt.
abbrev InDoubt : (sectors n : ℕ) → Stored → Option Way → List Happening → List RecordedEdit → ℕ → Image → Type 0
InDoubt sectors n start way events edits j image =
    ((e : RecordedEdit) × IsInDoubt events e × Whole sectors n start (edits ++ e ∷ []) j image)
    ⊎ ((index : ℕ) × (m : ℕ) × IsStepInDoubt (starts start way) events index m × Whole sectors n start edits m image)

-- An image from the time on at which the first k events had returned holds what was stored at some time since, or at the end what was
-- stored and an event in doubt.
abbrev pub RunImage : (sectors n : ℕ) → Stored → Option Way → List Happening → ℕ → Image → Type 0
RunImage sectors n start way events k image =
    ((i : ℕ) × (k ≤ i) × (i ≤ length events) × Settles sectors n start way (take i events) image)
    ⊎ InDoubt sectors n start way events (all_edits start events) (published_by start way events) image

holds_whole : (sectors n : ℕ) (start : Stored) (edits : List RecordedEdit) (j : ℕ) (s : Stored) (image : Image) → Has start edits j s
    → Holds sectors n s image → Whole sectors n start edits j image
holds_whole sectors n start edits j s image has holds = (has.0, has.1, has.2, subst (λ (x : Stored). Holds sectors n x image) has.3 holds)

no_doubt : (sectors n : ℕ) (start : Stored) (way : Option Way) (events : List Happening) (edits : List RecordedEdit) (j : ℕ)
    (image : Image) → NoneInDoubt events → InDoubt sectors n start way events edits j image → ⊥
no_doubt sectors n start way events edits j image none (inl w) = none w.1.index w.1.within (subst IsDoubtful (sym w.1.is) tt)
no_doubt sectors n start way events edits j image none (inr w) = none w.0 w.2.within (subst IsDoubtful (sym w.2.is) tt)

-- the publications of a run have some of its edits
module _ (start : Stored) (way : Option Way) (within : Within (starts start way)) (events : List Happening) where
  now_within : Within (progress_of (starts start way) events)
  now_within = progress_within (starts start way) events within

  pub published_within : published_by start way events ≤ length (all_edits start events)
  published_within = omega (arith, now_within.published, progress_edits start way events)

  way_within : (w : Way) → (progress_of (starts start way) events).under_way ≡ Some w → w.edits ≤ length (all_edits start events)
  way_within w is =
      let le : w.edits ≤ (progress_of (starts start way) events).edits =
      subst (λ (x : Option Way). IfSome x (λ (v : Way). v.edits ≤ (progress_of (starts start way) events).edits)) is now_within.under_way in
      omega (arith, le, progress_edits start way events)

whole_of_more : (sectors n : ℕ) (start : Stored) (first rest edits : List RecordedEdit) (j : ℕ) (image : Image) → edits ≡ first ++ rest → j ≤ length first
    → Whole sectors n start first j image → Fits sectors n start edits (length first) j image
whole_of_more sectors n start first rest edits j image is le whole = (
  whole.0,
  whole.1,
  whole.2,
  subst (λ (l : List RecordedEdit). Holds sectors n (fitting start l (length first) j whole.0 whole.1 whole.2) image) (sym is)
      (subst (λ (s : Stored). Holds sectors n s image) (fits_more start first j whole.0 whole.1 whole.2 le rest) whole.3),
)

module _ (sectors n : ℕ) (start : Stored) (way : Option Way) (within : Within (starts start way)) (events : List Happening)
    (k : ℕ) (image : Image) where
  image_settled : (i : ℕ) → k ≤ i → i ≤ length events → Settles sectors n start way (take i events) image
      → ImageFits sectors n start way events k image
  image_settled i le in_answers settles =
      let first : List RecordedEdit = all_edits start (take i events) in
      let more = all_split_at start events i in
      let order : published_by start way (take i events) ≤ length first =
      published_within start way within (take i events) in
      record {
        edits = all_edits start events;
        are_edits = inl refl;
        i = length first;
        j = published_by start way (take i events);
        within = omega (arith, ap length more.1, length-append first more.0);
        order = order;
        acknowledged_then = all_of_more start events k i le;
        published = inl (i, le, in_answers, refl);
        fits = whole_of_more sectors n start first more.0 (all_edits start events) (published_by start way (take i events))
            image more.1 order settles;
      }

  first_fewer : (i : ℕ) → length (all_edits start (take i events)) ≤ length (all_edits start events)
  first_fewer i = let more = all_split_at start events i in
      omega (arith, ap length more.1, length-append (all_edits start (take i events)) more.0)

  image_doubtful : k ≤ length events
      → InDoubt sectors n start way events (all_edits start events) (published_by start way events) image
      → ImageFits sectors n start way events k image
  image_doubtful le (inl w) =
      let edits : List RecordedEdit = all_edits start events ++ w.0 ∷ [] in
      record {
        edits = edits;
        are_edits = inr (w.0, w.1, refl);
        i = length edits;
        j = published_by start way events;
        within = omega arith;
        order = omega (arith, published_within start way within events, one_more (all_edits start events) w.0);
        acknowledged_then = omega (arith, first_fewer k, one_more (all_edits start events) w.0);
        published = inl (
          length events,
          le,
          omega arith,
          ap (λ (l : List Happening). published_by start way l) (sym (take_all (length events) events (omega arith))),
        );
        fits = w.2;
      }
  image_doubtful le (inr w) =
      let some : w.1 ≤ length (all_edits start (take w.0 events)) =
      omega (arith, way_within start way within (take w.0 events) w.2.way w.2.under_way, w.2.edits_are) in
      record {
        edits = all_edits start events;
        are_edits = inl refl;
        i = length (all_edits start events);
        j = w.1;
        within = omega arith;
        order = omega (arith, some, first_fewer w.0);
        acknowledged_then = first_fewer k;
        published = inr (w.0, w.2);
        fits = w.3;
      }

  image_fits : k ≤ length events → RunImage sectors n start way events k image
      → ImageFits sectors n start way events k image
  image_fits le (inl w) = image_settled w.0 w.1 w.2 w.3
  image_fits le (inr w) = image_doubtful le w

-- What a run leaves of a disk, so far.
pub record RunLeaves (sectors n : ℕ) (start : Stored) (way : Option Way) (events : List Happening)
    (old new : History) : Type 0 where
  pub within : Within (starts start way)
  pub by : ℕ → History
  pub begins : by 0 ≡ old
  pub goes_on : (k : ℕ) → k < length events → Follows (by k) (by (suc k))
  pub ends : by (length events) ≡ new
  pub earlier : (k : ℕ) → k ≤ length events → moment (by k) ≤ moment new
  pub settled : (k : ℕ) → k ≤ length events → NoneInDoubt (take k events)
      → (image : Image) → MayLeave (by k) image → Settles sectors n start way (take k events) image
  pub images : (k m : ℕ) → k ≤ m → m ≤ length events → (image : Image) → LeftSince (by m) (moment (by k)) image
      → RunImage sectors n start way (take m events) k image

pub run_fits : (sectors n : ℕ) (start : Stored) (way : Option Way) (events : List Happening) (old new : History)
    → (run : RunLeaves sectors n start way events old new) → RunFits sectors n start way events old new run.by
run_fits sectors n start way events old new run = record {
  begins = run.begins;
  goes_on = run.goes_on;
  ends = run.ends;
  settled = run.settled;
  fits = λ k m le le' image since.
      image_fits sectors n start way run.within (take m events) k image (omega (arith, length-take-le m events le', le))
      (run.images k m le le' image since);
}

-- before the first event
pub run_starts : (sectors n : ℕ) (start : Stored) (way : Option Way) (h : History) → Within (starts start way) → Keeps sectors n start h
    → RunLeaves sectors n start way [] h h
run_starts sectors n start way h within keeps = record {
  within = within;
  by = λ k. h;
  begins = refl;
  goes_on = λ k lt. absurd (omega (arith, lt));
  ends = refl;
  earlier = λ k le. omega arith;
  settled = λ k le none image may. starts_with k le image (keeps image may);
  images = λ k m le le' image since. inl (
    0,
    omega (arith, le, le'),
    omega arith,
    at_start m image (keeps image (only_now h image since)),
  );
}
  where
    settles : (image : Image) → Holds sectors n start image → Settles sectors n start way [] image
    settles image holds = holds_whole sectors n start (start.since ++ []) 0 start image (has_start start) holds

    at_start : (m : ℕ) (image : Image) → Holds sectors n start image → Settles sectors n start way (take 0 (take m [])) image
    at_start m image holds = settles image holds

    starts_with : (k : ℕ) → k ≤ 0 → (image : Image) → Holds sectors n start image → Settles sectors n start way (take k []) image
    starts_with zero le image holds = settles image holds
    starts_with (suc k) le image holds = absurd (omega (arith, le))

-- the history is that before the first event all along
pub starts_by : (sectors n : ℕ) (start : Stored) (way : Option Way) (h : History) (within : Within (starts start way)) (keeps : Keeps sectors n start h)
    (k : ℕ) → (run_starts sectors n start way h within keeps).by k ≡ h
unfolding run_starts
starts_by sectors n start way h within keeps k = refl

-- ---- one event more

-- what there is by each number of events, and by one more
pub by_next : {A : Type 0} → (ℕ → A) → ℕ → A → ℕ → A
by_next by done new k = if k == done then new else by k

pub by_next_last : {A : Type 0} (by : ℕ → A) (done : ℕ) (new : A) (k : ℕ) → k ≡ done → by_next by done new k ≡ new
unfolding by_next
by_next_last by done new k is = grind (arith, nat_tests)

pub by_next_before : {A : Type 0} (by : ℕ → A) (done : ℕ) (new : A) (k : ℕ) → (k ≡ done → ⊥) → by_next by done new k ≡ by k
unfolding by_next
by_next_before by done new k apart = grind (arith, nat_tests)

-- it is so of a part of it
pub by_next_part : {A B : Type 0} (part : A → B) (by : ℕ → B) (at : ℕ → A) (done : ℕ) (new : A) → ((k : ℕ) → by k ≡ part (at k))
    → (k : ℕ) → by_next by done (part new) k ≡ part (by_next at done new k)
unfolding by_next
by_next_part {A} {B} part by at done new same k = either (k == done)
  where
    either : (b : Bool) → (if b then part new else by k) ≡ part (if b then new else at k)
    either true = refl
    either false = same k

-- the same events, stated differently
pub told_as : (P : List Happening → Type 0) {events events' : List Happening} → events' ≡ events → P events → P events'
told_as P same holds = subst (λ (x : List Happening). P x) (sym same) holds

-- a history at which some events had returned, when none was in doubt
abbrev Settled : (sectors n : ℕ) → Stored → Option Way → List Happening → History → Type 0
Settled sectors n start way events h = NoneInDoubt events → (image : Image) → MayLeave h image → Settles sectors n start way events image

settled_as : (sectors n : ℕ) (start : Stored) (way : Option Way) {events events' : List Happening} {h h' : History}
    → events' ≡ events → h' ≡ h → Settled sectors n start way events h → Settled sectors n start way events' h'
settled_as sectors n start way {events} {events'} {h} {h'} same_events same_history settled =
    told_as (λ asked. Settled sectors n start way asked h') same_events
    (subst (λ (x : History). Settled sectors n start way events x) (sym same_history) settled)

-- the event neither adds an edit nor continues a publication
abbrev IsStill : Happening → Type 0
IsStill event = (edits_by event ≡ []) × ((p : Progress) → progress_after p event ≡ p)

-- that's so of one in doubt
doubt_still : (event : Happening) → IsDoubtful event → IsStill event
doubt_still (edit call e (Err Device)) doubt = (refl, λ p. refl)
doubt_still (step (Err Device)) doubt = (refl, λ p. refl)
doubt_still (check (Err Device)) doubt = (refl, λ p. refl)
doubt_still event doubt = absurd doubt

-- what is stored with an event in doubt
abbrev Doubtful : (sectors n : ℕ) → Stored → Option PublicationView → Happening → Image → Type 0
Doubtful sectors n s publication event image = ((call : Call) × (e : RecordedEdit) × (event ≡ edit call e (Err Device)) × Holds sectors n (with_edit s e) image)
    ⊎ ((event ≡ step (Err Device)) × IsLast publication × Holds sectors n (installed n s publication) image)

-- An event leaves what was stored before it, what is stored after it, or what is in doubt.
as_leaves : (sectors n : ℕ) (s : Stored) (publication : Option PublicationView) (event : Happening) (image : Image)
    → EventLeaves sectors n s publication event image
    → Holds sectors n s image ⊎ Holds sectors n (stored_after n s publication event) image ⊎ Doubtful sectors n s publication event image
as_leaves sectors n s publication (edit call e outcome) image (inl holds) = inl holds
as_leaves sectors n s publication (edit call e (Ok number)) image (inr w) = inr (inl w.1)
as_leaves sectors n s publication (edit call e (Err fault)) image (inr w) =
    inr (inr (inl (call, e, ap (λ (f : ServiceFault). edit call e (Err f)) w.0, w.1)))
as_leaves sectors n s publication (step outcome) image (inl holds) = inl holds
as_leaves sectors n s publication (step outcome) image (inr w) = ⊎_elim
    (λ (done : outcome ≡ Ok 0). inr (inl
    (subst (λ (o : Result ℕ ServiceFault). Holds sectors n (stored_after n s publication (step o)) image) (sym done) w.1)))
    (λ (failed : outcome ≡ Err Device). inr (inr (inr (ap step failed, w.0.0, w.1)))) w.0.1
as_leaves sectors n s publication event image holds = inl holds

-- what is in doubt is so
is_doubtful : (sectors n : ℕ) (s : Stored) (publication : Option PublicationView) (event : Happening) (image : Image)
    → Doubtful sectors n s publication event image → IsDoubtful event
is_doubtful sectors n s publication event image (inl w) = subst IsDoubtful (sym w.2) tt
is_doubtful sectors n s publication event image (inr w) = subst IsDoubtful (sym w.0) tt

-- What an event does at a service that isn't broken, of which this is stored and which has this publication under way.
pub record IsHere (sectors n : ℕ) (start : Stored) (way : Option Way) (events : List Happening) (event : Happening) (h new : History) : Type 0 where
  pub s : Stored
  pub publication : Option PublicationView
  pub reaches : Reaches start way events s
  pub way_is : way_of start.edits publication ≡ (progress_of (starts start way) events).under_way
  pub since : IfSome publication (IsSince s)
  pub call : LeavesOnly h new (EventLeaves sectors n s publication event)
  pub after : (IsDoubtful event → ⊥) → Keeps sectors n (stored_after n s publication event) new

module _ (sectors n : ℕ) (start : Stored) (way : Option Way) (events : List Happening) (event : Happening) (old h new : History)
    (so_far : RunLeaves sectors n start way events old h) (follows : Follows h new) where
  abbrev events' : List Happening
  events' = events ++ event ∷ []

  longer : length events' ≡ length events + 1
  longer = one_more events event

  abbrev next_by : ℕ → History
  next_by = by_next so_far.by (length events + 1) new

  by_now : (k : ℕ) → k ≡ length events + 1 → next_by k ≡ new
  by_now k is = by_next_last so_far.by (length events + 1) new k is

  by_before : (k : ℕ) → k ≤ length events → next_by k ≡ so_far.by k
  by_before k le = by_next_before so_far.by (length events + 1) new k (λ is. absurd (omega (arith, is, le)))

  later : moment h ≤ moment new
  later = is_later h new follows

  first_events : (k : ℕ) → k ≤ length events → take k events' ≡ take k events
  first_events k le = take-append-le k events (event ∷ []) le

  all_events : (k : ℕ) → length events + 1 ≤ k → take k events' ≡ events'
  all_events k le = take_all k events' (omega (arith, le, longer))

  settles_as : (image : Image) {asked asked' : List Happening} → asked' ≡ asked
      → Settles sectors n start way asked image → Settles sectors n start way asked' image
  settles_as image same_events settles = told_as (λ asked. Settles sectors n start way asked image) same_events settles

  -- all were taken before
  were_all : (k : ℕ) (image : Image) → length events ≤ k → Settles sectors n start way (take k events) image
      → Settles sectors n start way events image
  were_all k image le settles = settles_as image (sym (take_all k events le)) settles

  settled_now : (image : Image) → RunImage sectors n start way events' (length events + 1) image → NoneInDoubt events'
      → Settles sectors n start way events' image
  settled_now image (inl w) none = settles_as image (sym (all_events w.0 w.1)) w.3
  settled_now image (inr w) none =
      absurd (no_doubt sectors n start way events' (all_edits start events') (published_by start way events') image none w)

  -- of what was left up to the history before the event
  images_before : (k : ℕ) → k ≤ length events → (image : Image) → LeftSince h (moment (so_far.by k)) image
      → RunImage sectors n start way events k image
  images_before k le image since = told_as (λ asked. RunImage sectors n start way asked k image)
      (sym (take_all (length events) events (omega arith)))
      (so_far.images k (length events) le (omega arith) image
      (subst (λ (x : History). LeftSince x (moment (so_far.by k)) image) (sym so_far.ends) since))

  abbrev AtPast : Type 0
  AtPast = (k : ℕ) → k ≤ length events → (image : Image) → LeftSince new (moment (so_far.by k)) image
      → RunImage sectors n start way events' k image

  abbrev AtEnd : Type 0
  AtEnd = (image : Image) → MayLeave new image → RunImage sectors n start way events' (length events + 1) image

  image_now : AtPast → AtEnd → (k : ℕ) → k ≤ length events + 1 → (image : Image) → LeftSince new (moment (next_by k)) image
      → RunImage sectors n start way events' k image
  image_now past now k le image since = ⊎_elim
      (λ (last : k ≡ length events + 1). subst (λ (j : ℕ). RunImage sectors n start way events' j image) (sym last)
      (now image (only_now new image (subst (λ (x : History). LeftSince new (moment x) image) (by_now k last) since))))
      (λ (sooner : k ≡ length events + 1 → ⊥). let le' : k ≤ length events = omega (arith, sooner, le) in
      past k le' image (subst (λ (x : History). LeftSince new (moment x) image) (by_before k le') since))
      (cases_eq k (length events + 1))

  run_step : AtPast → AtEnd → RunLeaves sectors n start way events' old new
  run_step past now = record {
    within = so_far.within;
    by = next_by;
    begins = by_before 0 (omega arith) ∙ so_far.begins;
    goes_on = λ k lt. ⊎_elim
        (λ (last : k ≡ length events). subst (λ (x : History). Follows x (next_by (suc k)))
        (sym (by_before k (omega (arith, last)) ∙ ap so_far.by last ∙ so_far.ends))
        (subst (λ (x : History). Follows h x) (sym (by_now (suc k) (omega (arith, last)))) follows))
        (λ (sooner : k ≡ length events → ⊥). let lt' : k < length events = omega (arith, sooner, lt, longer) in
        subst (λ (x : History). Follows x (next_by (suc k))) (sym (by_before k (omega (arith, lt'))))
        (subst (λ (x : History). Follows (so_far.by k) x) (sym (by_before (suc k) (omega (arith, lt')))) (so_far.goes_on k lt')))
        (cases_eq k (length events));
    ends = by_now (length events') longer;
    earlier = λ k le. ⊎_elim
        (λ (last : k ≡ length events + 1). omega (arith, ap (λ (x : History). moment x) (by_now k last)))
        (λ (sooner : k ≡ length events + 1 → ⊥). let le' : k ≤ length events = omega (arith, sooner, le, longer) in
        omega (arith, ap (λ (x : History). moment x) (by_before k le'), so_far.earlier k le', later))
        (cases_eq k (length events + 1));
    settled = λ k le. ⊎_elim
        (λ (last : k ≡ length events + 1). settled_as sectors n start way
        (all_events k (omega (arith, last))) (by_now k last)
        (λ none image may. settled_now image (now image may) none))
        (λ (sooner : k ≡ length events + 1 → ⊥). let le' : k ≤ length events = omega (arith, sooner, le, longer) in
        settled_as sectors n start way (first_events k le') (by_before k le') (so_far.settled k le'))
        (cases_eq k (length events + 1));
    images = λ k m le le' image since. ⊎_elim
        (λ (last : m ≡ length events + 1).
        told_as (λ asked. RunImage sectors n start way asked k image) (all_events m (omega (arith, last)))
        (image_now past now k (omega (arith, le, last)) image (subst (λ (x : History). LeftSince x (moment (next_by k)) image) (by_now m last) since)))
        (λ (sooner : m ≡ length events + 1 → ⊥). let le'' : m ≤ length events = omega (arith, sooner, le', longer) in
        told_as (λ asked. RunImage sectors n start way asked k image) (first_events m le'')
        (so_far.images k m le le'' image (subst (λ (x : History). LeftSince x (moment (so_far.by k)) image) (by_before m le'')
        (subst (λ (x : History). LeftSince (next_by m) (moment x) image) (by_before k (omega (arith, le, le''))) since))))
        (cases_eq m (length events + 1));
  }

  -- what was stored earlier, and what is stored now
  earlier_image : (k i : ℕ) (image : Image) → k ≤ i → i ≤ length events → Settles sectors n start way (take i events) image
      → RunImage sectors n start way events' k image
  earlier_image k i image le le' settles =
      inl (i, le, omega (arith, longer, le'), settles_as image (first_events i le') settles)

  this_image : (k : ℕ) (image : Image) → k ≤ length events → Settles sectors n start way events image
      → RunImage sectors n start way events' k image
  this_image k image le settles = earlier_image k (length events) image le (omega arith)
      (settles_as image (take_all (length events) events (omega arith)) settles)

  latest_image : (k : ℕ) (image : Image) → k ≤ length events + 1 → Settles sectors n start way events' image
      → RunImage sectors n start way events' k image
  latest_image k image le settles = inl (
    length events + 1,
    le,
    omega (arith, longer),
    settles_as image (all_events (length events + 1) (omega arith)) settles,
  )

  -- an event that adds and publishes nothing
  module _ (is_still : IsStill event) where
    same_edits : all_edits start events' ≡ all_edits start events
    same_edits = all_edits_on start events event
        ∙ ap (λ (l : List RecordedEdit). all_edits start events ++ l) is_still.0 ∙ append-nil (all_edits start events)

    same_published : published_by start way events' ≡ published_by start way events
    same_published = ap (λ (p : Progress). p.published)
        (progress_on (starts start way) events event ∙ is_still.1 (progress_of (starts start way) events))

    still_settles : (image : Image) → Settles sectors n start way events image → Settles sectors n start way events' image
    still_settles image settles = subst (λ (l : List RecordedEdit). Whole sectors n start l (published_by start way events') image) (sym same_edits)
        (subst (λ (j : ℕ). Whole sectors n start (all_edits start events) j image) (sym same_published) settles)

    doubt_image : (k : ℕ) (image : Image)
        → InDoubt sectors n start way events' (all_edits start events) (published_by start way events) image
        → RunImage sectors n start way events' k image
    doubt_image k image doubt =
        inr (subst (λ (l : List RecordedEdit). InDoubt sectors n start way events' l (published_by start way events') image) (sym same_edits)
        (subst (λ (j : ℕ). InDoubt sectors n start way events' (all_edits start events) j image) (sym same_published) doubt))

  still_doubt : (edits : List RecordedEdit) (j : ℕ) (image : Image) → InDoubt sectors n start way events edits j image
      → InDoubt sectors n start way events' edits j image
  still_doubt edits j image (inl w) = inl (w.0, doubt_stays events event w.0 w.1, w.2)
  still_doubt edits j image (inr w) = inr (w.0, w.1, step_stays events event (starts start way) w.0 w.1 w.2, w.3)

  -- a broken service does nothing
  module _ (quiet : IsQuiet event) (unchanged : new ≡ h) where
    is_still : IsStill event
    is_still = (quiet.edits_nothing, quiet.publishes_nothing)

    more : (k : ℕ) (image : Image) → RunImage sectors n start way events k image → RunImage sectors n start way events' k image
    more k image (inl w) = earlier_image k w.0 image w.1 w.2 w.3
    more k image (inr w) = doubt_image is_still k image (still_doubt (all_edits start events) (published_by start way events) image w)

    at_end : (image : Image) → RunImage sectors n start way events (length events) image
        → RunImage sectors n start way events' (length events + 1) image
    at_end image (inl w) = latest_image (length events + 1) image (omega arith) (still_settles is_still image (were_all w.0 image w.1 w.3))
    at_end image (inr w) = doubt_image is_still (length events + 1) image
        (still_doubt (all_edits start events) (published_by start way events) image w)

    pub run_broken : RunLeaves sectors n start way events' old new
    run_broken = run_step
        (λ k le image since. more k image (images_before k le image (subst (λ (x : History). LeftSince x (moment (so_far.by k)) image) unchanged since)))
        (λ image may. at_end image (images_before (length events) (omega arith) image
        (since_now h (moment (so_far.by (length events))) image (so_far.earlier (length events) (omega arith))
        (subst (λ (x : History). MayLeave x image) unchanged may))))

  -- one that isn't broken stores what it acknowledges
  module _ (none : NoneInDoubt events) (here : IsHere sectors n start way events event h new) where
    abbrev edits_now : List RecordedEdit
    edits_now = all_edits start events

    order : published_by start way events ≤ length edits_now
    order = published_within start way so_far.within events

    before_settles : (image : Image) → Holds sectors n here.s image → Settles sectors n start way events image
    before_settles image holds = holds_whole sectors n start edits_now (published_by start way events) here.s image here.reaches holds

    pub reaches_on : Reaches start way events' (stored_after n here.s here.publication event)
    reaches_on = subst (λ (l : List RecordedEdit). Has start l (published_by start way events') (stored_after n here.s here.publication event))
        (sym (all_edits_on start events event))
        (subst (λ (p : Progress). Has start (edits_now ++ edits_by event) p.published (stored_after n here.s here.publication event))
        (sym (progress_on (starts start way) events event))
        (has_on n start edits_now (progress_of (starts start way) events) here.s order here.reaches here.publication event
        here.way_is here.since))

    after_settles : (image : Image) → Holds sectors n (stored_after n here.s here.publication event) image
        → Settles sectors n start way events' image
    after_settles image holds = holds_whole sectors n start (all_edits start events') (published_by start way events')
        (stored_after n here.s here.publication event) image reaches_on holds

    past_image : (k : ℕ) (image : Image) → RunImage sectors n start way events k image → RunImage sectors n start way events' k image
    past_image k image (inl w) = earlier_image k w.0 image w.1 w.2 w.3
    past_image k image (inr w) =
        absurd (no_doubt sectors n start way events edits_now (published_by start way events) image none w)

    last_published : (publication : Option PublicationView) → event ≡ step (Err Device)
        → way_of start.edits publication ≡ (progress_of (starts start way) events).under_way → IfSome publication (IsSince here.s)
        → IsLast publication → (image : Image) → Holds sectors n (installed n here.s publication) image
        → InDoubt sectors n start way events' edits_now (published_by start way events) image
    last_published None is way_is since last image holds = absurd last
    last_published (Some p) is way_is since last image holds = inr (
      length events,
      p.start.edits - start.edits,
      last_step events event start (starts start way) p is way_is last,
      holds_whole sectors n start edits_now (p.start.edits - start.edits) (installed n here.s (Some p)) image
          (has_published n start edits_now (published_by start way events) here.s p order here.reaches since) holds,
    )

    new_doubt : (image : Image) → Doubtful sectors n here.s here.publication event image
        → InDoubt sectors n start way events' edits_now (published_by start way events) image
    new_doubt image (inl w) = inl (
      w.1,
      last_in_doubt events event w.0 w.1 w.2,
      holds_whole sectors n start (edits_now ++ w.1 ∷ []) (published_by start way events) (with_edit here.s w.1) image
          (has_edit start edits_now (published_by start way events) here.s w.1 order here.reaches) w.3,
    )
    new_doubt image (inr w) = last_published here.publication w.0 here.way_is here.since w.1 image w.2

    -- what the event leaves, during it and after it
    event_image : (k : ℕ) (image : Image) → k ≤ length events + 1
        → (Holds sectors n here.s image → RunImage sectors n start way events' k image)
        → EventLeaves sectors n here.s here.publication event image → RunImage sectors n start way events' k image
    event_image k image le before leaves = ⊎_elim before
        (λ (rest : Holds sectors n (stored_after n here.s here.publication event) image
        ⊎ Doubtful sectors n here.s here.publication event image). ⊎_elim
        (λ (holds : Holds sectors n (stored_after n here.s here.publication event) image). latest_image k image le (after_settles image holds))
        (λ (w : Doubtful sectors n here.s here.publication event image).
        doubt_image (doubt_still event (is_doubtful sectors n here.s here.publication event image w)) k image (new_doubt image w)) rest)
        (as_leaves sectors n here.s here.publication event image leaves)

    during : (k : ℕ) (image : Image) → k ≤ length events → EventLeaves sectors n here.s here.publication event image
        → RunImage sectors n start way events' k image
    during k image le leaves = event_image k image (omega (arith, le)) (λ holds. this_image k image le (before_settles image holds)) leaves

    -- after it, where the disk failed
    after_fault : (image : Image) → IsDoubtful event → EventLeaves sectors n here.s here.publication event image
        → RunImage sectors n start way events' (length events + 1) image
    after_fault image failed leaves = event_image (length events + 1) image (omega arith)
        (λ holds. latest_image (length events + 1) image (omega arith) (still_settles (doubt_still event failed) image (before_settles image holds))) leaves

    pub run_unbroken : RunLeaves sectors n start way events' old new
    run_unbroken = run_step
        (λ k le image since. ⊎_elim (λ was. past_image k image (images_before k le image was))
        (λ now. during k image le now)
        (left_before h new (EventLeaves sectors n here.s here.publication event) here.call (moment (so_far.by k)) image (so_far.earlier k le) since))
        (λ image may. ⊎_elim
        (λ (failed : IsDoubtful event). after_fault image failed (here.call.each image (since_now new (moment h) image later may)))
        (λ (not : IsDoubtful event → ⊥). latest_image (length events + 1) image (omega arith) (after_settles image (here.after not image may)))
        (doubtful_or_not event))

-- the event by any service
pub run_goes_on : (sectors n : ℕ) (start : Stored) (way : Option Way) (events : List Happening) (event : Happening)
    (old h new : History) → RunLeaves sectors n start way events old h → (broken : Bool)
    → (broken ≡ true → IsQuiet event × (new ≡ h)) → (broken ≡ false → NoneInDoubt events)
    → (broken ≡ false → IsHere sectors n start way events event h new)
    → RunLeaves sectors n start way (events ++ event ∷ []) old new
run_goes_on sectors n start way events event old h new so_far true quiet none here =
    run_broken sectors n start way events event old h new so_far
    (subst (λ (x : History). Follows h x) (sym (quiet refl).1) (follows_itself h)) (quiet refl).0 (quiet refl).1
run_goes_on sectors n start way events event old h new so_far false quiet none here =
    run_unbroken sectors n start way events event old h new so_far (here refl).call.follows (none refl) (here refl)

-- the histories by each number of events are those so far, and the new one
pub goes_on_by : (sectors n : ℕ) (start : Stored) (way : Option Way) (events : List Happening) (event : Happening)
    (old h new : History) (so_far : RunLeaves sectors n start way events old h) (broken : Bool)
    (quiet : broken ≡ true → IsQuiet event × (new ≡ h)) (none : broken ≡ false → NoneInDoubt events)
    (here : broken ≡ false → IsHere sectors n start way events event h new) (k : ℕ)
    → (run_goes_on sectors n start way events event old h new so_far broken quiet none here).by k ≡ by_next so_far.by (length events + 1) new k
unfolding run_goes_on run_broken run_unbroken run_step
goes_on_by sectors n start way events event old h new so_far true quiet none here k = refl
goes_on_by sectors n start way events event old h new so_far false quiet none here k = refl

-- the same sizes, stated differently
pub sized_as : (P : ℕ → ℕ → Type 0) {sectors sectors' n n' : ℕ} → sectors' ≡ sectors → n' ≡ n → P sectors' n' → P sectors n
sized_as P {sectors} {sectors'} {n} {n'} same_sectors same_n holds =
    subst (λ (x : ℕ). P x n) same_sectors (subst (λ (x : ℕ). P sectors' x) same_n holds)
