-- What happens to the service of a listener, reply by reply, and what a publication in the making is of.
use Rattle.std.proofs.Common.{◌≡◌, inl, inr, ◌⊎◌, ℕ, List, [], ◌∷◌, ◌++◌, length, Bool, true, false, Option, Some, None, Result, Ok, Err, refl, sym}
use Rattle.std.proofs.Common.{◌<◌, ap, subst, ◌∙◌, append_assoc, arith}
use Rattle.std.specs.Prelude.{map, IfErr, IfOk}
use Rattle.std.proofs.lemmas.Bool.{false≢true}
use Rattle.std.proofs.lemmas.List.{append-nil}
use Rattle.std.proofs.lemmas.List.Elements.{All-nil, All-cons}
use Rattle.std.specs.Option.{is_some}
use Rattle.http_requests.specs.Requests.{RequestView}
use Rattle.http_serve.specs.Reply.{ReplyView}
use Rattle.http_serve.specs.declared.handlers.RestFault.{RestFault}
use Rattle.http_serve.specs.declared.handlers.Ticket.{Ticket}
use Rattle.sector_disk.specs.Asked.{OnlyReads}
use Rattle.sector_disk.specs.Disk.{History}
use Rattle.sector_disk.proofs.AskedLaws.{reads_none}
use Rattle.feature_store.specs.Store.{FeatureMap}
use Rattle.published_tiles.specs.Published.{PublishedView}
use Rattle.tile_routes.specs.Methods.{method_on}
use Rattle.tile_routes.specs.Paths.{Asked}
use Rattle.tile_service.specs.Drafted.{DraftedView}
use Rattle.tile_service.specs.Machine.{Happening, begin, step, cancel}
use Rattle.tile_service.specs.Prepared.{CanPrepare, prepared}
use Rattle.tile_service.specs.Publishing.{HasNoContent}
use Rattle.tile_service.specs.Runs.{IsUnfinished, RestEndsAs, TakesAll}
use Rattle.tile_service.specs.Service.{PublicationView, ServiceView, KeepsDraft, BeginsDrafted, TellsDevice, drafted_now, status_of, status_view}
use Rattle.tile_service.specs.Tickets.{IsHeld}
use Rattle.tile_service.specs.declared.fault.ServiceFault.{ServiceFault}
use Rattle.tile_service.specs.declared.fault.ServiceFault.TheVariants.{Device}
use Rattle.tile_service.specs.declared.publishing_whole.Published.{Published}
use Rattle.tile_service.specs.declared.status.Status.{Status}
use Rattle.service_laws.specs.Beside.{AreBeside}
use Rattle.map_replies.specs.declared.calls.Calls.{Calls}
use Rattle.map_replies.specs.declared.service.MapReplies.{MapReplies}
use Rattle.map_replies.specs.declared.preparing.PreparingReplies.{PreparingReplies}
use Rattle.map_replies.specs.Conditions.{ask_of}
use Rattle.map_replies.specs.Meanings.{DiskFailed, asked_for, last_outcome}
use Rattle.map_replies.specs.Preparing.{IsMadeReady, BeginsLate, PreparingReplied, PreparingReads, PreparingStep, Meanwhile}
use Rattle.map_replies.specs.Preparing.{IsToPublishWhole, GoesToItsEnd, EndsLate, BeginsWhole, StepsWhole, CancelsWhole, GoesOnWhole, ReadsPart, Prepares}
use Rattle.map_replies.specs.Preparing.{IsToBegin, TellsMeanwhile, TellsMeanwhileRead, TellsPrepared, TellsPreparedFor, PreparesFor, is_to_publish}
use Rattle.map_replies.specs.Preparing.{inner_service}
use Rattle.map_replies.specs.Preparing.{AreMeanwhile, beginning_of, has_begun, is_begun, meanwhile, without_draft}
use Rattle.map_replies.specs.Tickets.{KeepsOldest, KeepsTickets, oldest_after}
use Rattle.map_replies.specs.Words.{left_reply, published_reply}
use Rattle.map_replies.specs.State.{access_of, tags_of, asked_service, settings_of, KeepsArchivesOn, ServiceReplies}
use Rattle.map_replies.proofs.Answering.{device_failed}
use Rattle.map_replies.proofs.Apart.{AreApart, apart_meanwhile, apart_on, method_apart}
use Rattle.map_replies.proofs.Goes.{Goes, Rests, rests_none, rests_undrafted, goes_all, goes_on, goes_rest, draft_after, all_beside}
use Rattle.map_replies.proofs.LateBeginnings.{late_begun, late_refused}
use Rattle.map_replies.proofs.OldestLemmas.{breaks_in_rest, published_by_reply, unbroken_before_rest}
use Rattle.map_replies.proofs.ReadyLemmas.{step_nothing}
use Rattle.map_replies.proofs.TicketLemmas.{held_unasked}

-- what there is, or else this
abbrev got_or : {A : Type 0} → A → Option A → A
got_or other None = other
got_or other (Some a) = a

-- there is none
is_none : {A : Type 0} (o : Option A) (a : A) → o ≡ Some a → o ≡ None → ⊥
is_none o a is none = false≢true (ap is_some (sym none ∙ is))

-- it is the one that is there
is_it : {A : Type 0} (o : Option A) (a b : A) → o ≡ Some a → o ≡ Some b → a ≡ b
is_it o a b is there = ap (got_or a) (sym is ∙ there)

-- a draft that is gone stays gone
still_none : (old new : Option DraftedView) → KeepsDraft old new → old ≡ None → new ≡ None
still_none old new (inl same) none = same ∙ none
still_none old new (inr gone) none = gone

-- ---- the steps of a whole publication

-- what is reported of it
abbrev IsTold : Status → Published → Type 0
IsTold new p = p ≡ record { generation = new.generation; edits = new.published; archive_len = new.archive_len }

rest_told : {D : Type 0} (outcome : Result Published ServiceFault) (new : ServiceView D) (last : Result ℕ ServiceFault) → RestEndsAs outcome new last
    → IfOk outcome (IsTold (status_of new))
rest_told (Ok p) new last ends = λ i. record { generation = ends.1 i; edits = ends.2 i; archive_len = ends.3 i }
rest_told (Err fault) new last ends = tt

rest_last : {D : Type 0} (outcome : Result Published ServiceFault) (new : ServiceView D) (last : Result ℕ ServiceFault) → RestEndsAs outcome new last
    → last ≡ last_outcome outcome
rest_last (Ok p) new last ends = ends.0
rest_last (Err fault) new last ends = ends

-- a map has no content for other reasons than the disk
content_needs_no_disk : (m : FeatureMap) (area : ℕ) (fault : ServiceFault) → HasNoContent m area fault → fault ≡ Device → ⊥
content_needs_no_disk m area fault has device = subst (λ (f : ServiceFault). HasNoContent m area f) device has

-- a beginning leaves something, or is refused, but not for the disk
abbrev IsBeginning : Result ℕ ServiceFault → Type 0
IsBeginning (Ok left) = 0 < left
IsBeginning (Err fault) = fault ≡ Device → ⊥

is_beginning : (size : ℕ) (d : DraftedView) (outcome : Result ℕ ServiceFault) (publication : Option PublicationView)
    → BeginsDrafted size d outcome publication → IsBeginning outcome
is_beginning size d (Ok left) publication begins = omega (arith, begins.3)
is_beginning size d (Err fault) publication begins = content_needs_no_disk _ _ fault begins.1

meanwhile_on : (before after : List Happening) → AreMeanwhile before → AreMeanwhile after → AreMeanwhile (before ++ after)
meanwhile_on [] after a b = b
meanwhile_on (happening ∷ before) after a b = (a.0, meanwhile_on before after a.1 b)

-- ---- a whole publication that has begun

-- The beginning of the whole publication that is prepared stands where its map was fixed, so many happenings from the start. Since then only steps
-- of it were made, and calls that have nothing to do with publications.
pub record Begun (run : List Happening) (beginning : Result ℕ ServiceFault) (fixed : ℕ) : Type 0 where
  pub before : List Happening
  pub after : List Happening
  pub is : run ≡ before ++ begin beginning ∷ after
  pub count : fixed ≡ length before
  pub fits : IsBeginning beginning
  pub along : AreMeanwhile after

begun_on : (run more : List Happening) (beginning : Result ℕ ServiceFault) (n : ℕ) → Begun run beginning n → AreMeanwhile more
    → Begun (run ++ more) beginning n
begun_on run more beginning n so along = record {
  before = so.before;
  after = so.after ++ more;
  is = ap (λ (l : List Happening). l ++ more) so.is ∙ append_assoc so.before (begin beginning ∷ so.after) more;
  count = so.count;
  fits = so.fits;
  along = meanwhile_on so.after more so.along along;
}

-- what was left as it began
begun_left : (beginning : Option (Result ℕ ServiceFault)) → is_begun beginning ≡ true → (left : ℕ) × (beginning ≡ Some (Ok left))
begun_left None is = absurd (false≢true is)
begun_left (Some (Ok left)) is = (left, refl)
begun_left (Some (Err fault)) is = absurd (false≢true is)

-- if it has begun, or its map was refused; nothing is in the making then
abbrev pub IfBegun : {D : Type 0} → PreparingReplies D → List Happening → Option ℕ → Type 0
IfBegun now run fixed = (beginning : Result ℕ ServiceFault) → beginning_of now ≡ Some beginning
    → ((inner_service now).drafting ≡ None) × (n : ℕ) × (fixed ≡ Some n) × Begun run beginning n

-- none is prepared
none_begun : {D : Type 0} (now : PreparingReplies D) (run : List Happening) (fixed : Option ℕ) → beginning_of now ≡ None → IfBegun now run fixed
none_begun now run fixed none beginning is = absurd (is_none (beginning_of now) beginning is none)

module _ {D : Type 0} (sectors : D → ℕ) (honest : D → Type 0) (history : D → History) (faults : D → ℕ) where
  -- ---- a publication in the making

  -- The publication in the making is of the map after the first of these happenings, so many of them, and no call of a publication came since.
  pub record Drafts (first now : ServiceView D) (run : List Happening) (fixed : ℕ) : Type 0 where
    pub before : List Happening
    pub after : List Happening
    pub is : run ≡ before ++ after
    pub count : fixed ≡ length before
    pub then : ServiceView D
    pub can : CanPrepare then
    pub goes : Goes sectors honest history first before (prepared then)
    pub since : Goes sectors honest history (prepared then) after now
    pub apart : AreApart after
    pub draft : now.drafting ≡ Some (drafted_now then)

  -- if there is one
  abbrev pub IfDrafts : (first now : ServiceView D) → List Happening → Option ℕ → Type 0
  IfDrafts first now run fixed = (d : DraftedView) → now.drafting ≡ Some d → (n : ℕ) × (fixed ≡ Some n) × Drafts first now run n

  -- the map was fixed now
  drafts_now : (first then now : ServiceView D) (run : List Happening) → Goes sectors honest history first run then
      → Rests sectors honest history then now → CanPrepare then → now ≡ prepared then → Drafts first now run (length run)
  drafts_now first then now run goes rests can same = record {
    before = run;
    after = [];
    is = sym (append-nil run);
    count = refl;
    then = then;
    can = can;
    goes = subst (λ (s : ServiceView D). Goes sectors honest history first run s) same
        (goes_rest sectors honest history first then now run goes rests);
    since = subst (λ (s : ServiceView D). Rests sectors honest history (prepared then) s) (sym same) (rests_none sectors honest history (prepared then));
    apart = tt;
    draft = ap (λ (s : ServiceView D). s.drafting) same;
  }

  -- calls came that have nothing to do with publications
  drafts_on : (first now new : ServiceView D) (run more : List Happening) (n : ℕ) → Drafts first now run n → AreApart more
      → Goes sectors honest history now more new → new.drafting ≡ now.drafting → Drafts first new (run ++ more) n
  drafts_on first now new run more n so apart goes same = record {
    before = so.before;
    after = so.after ++ more;
    is = ap (λ (l : List Happening). l ++ more) so.is ∙ append_assoc so.before so.after more;
    count = so.count;
    then = so.then;
    can = so.can;
    goes = so.goes;
    since = goes_on sectors honest history (prepared so.then) now new so.after more so.since goes;
    apart = apart_on so.after more so.apart apart;
    draft = same ∙ so.draft;
  }

  -- nothing came but reads
  drafts_rest : (first now new : ServiceView D) (run : List Happening) (n : ℕ) → Drafts first now run n
      → Rests sectors honest history now new → new.drafting ≡ now.drafting → Drafts first new run n
  drafts_rest first now new run n so rests same = record {
    before = so.before;
    after = so.after;
    is = so.is;
    count = so.count;
    then = so.then;
    can = so.can;
    goes = so.goes;
    since = goes_rest sectors honest history (prepared so.then) now new so.after so.since rests;
    apart = so.apart;
    draft = same ∙ so.draft;
  }

  -- ---- one thing after the other

  pub record GoesMeanwhile (first now : PreparingReplies D) (so : Meanwhile D) : Type 0 where
    pub here : so ≡ meanwhile now so.run so.fixed
    pub goes : Goes sectors honest history (inner_service first) so.run (inner_service now)
    pub drafts : IfDrafts (inner_service first) (inner_service now) so.run so.fixed
    pub begun : IfBegun now so.run so.fixed

  -- in the beginning nothing is in the making
  pub goes_from : (first : PreparingReplies D) → GoesMeanwhile first (without_draft first) (meanwhile (without_draft first) [] None)
  goes_from first = record {
    here = refl;
    goes = rests_undrafted sectors honest history (inner_service first);
    drafts = λ d is. absurd (is_none None d is refl);
    begun = none_begun (without_draft first) [] None refl;
  }

  -- nothing is in the making
  no_drafts : (first now : ServiceView D) (run : List Happening) (fixed : Option ℕ) → now.drafting ≡ None → IfDrafts first now run fixed
  no_drafts first now run fixed none d is = absurd (is_none now.drafting d is none)

  -- ---- a beginning that comes late

  module _ (first old new : PreparingReplies D) (run : List Happening) (fixed : Option ℕ)
      (outcome : Result ℕ ServiceFault) (late : BeginsLate old.replies.calls outcome new.replies.calls)
      (so : (n : ℕ) × (fixed ≡ Some n) × Drafts (inner_service first) (inner_service old) run n) where
    abbrev at_ready : ServiceView D
    at_ready = inner_service old

    abbrev at_begun : ServiceView D
    at_begun = inner_service new

    abbrev dr : Drafts (inner_service first) at_ready run so.0
    dr = so.2

    abbrev with_publication : ServiceView D
    with_publication = record at_ready { publication = at_begun.publication }

    -- the draft is that of the map that was fixed
    is_drafted : BeginsDrafted at_ready.size (drafted_now dr.then) outcome at_begun.publication
    is_drafted = subst (λ (d : DraftedView). BeginsDrafted at_ready.size d outcome at_begun.publication)
        (ap (got_or late.ready.draft) (sym late.ready.is ∙ dr.draft)) late.begins

    begun_late : (o : Result ℕ ServiceFault) → BeginsDrafted at_ready.size (drafted_now dr.then) o at_begun.publication
        → Goes sectors honest history (prepared dr.then) (begin o ∷ dr.after) with_publication
    begun_late (Ok left) is = late_begun sectors honest history dr.then at_ready dr.after dr.can dr.since left at_begun.publication
        (all_beside sectors honest history (prepared dr.then) at_ready dr.after dr.apart dr.since late.ready.unbroken).1 is
    begun_late (Err fault) is =
        subst (λ (o : Option PublicationView). Goes sectors honest history (prepared dr.then) (begin (Err fault) ∷ dr.after)
        (record at_ready { publication = o })) (late.ready.none ∙ sym is.0)
        (late_refused sectors honest history dr.then at_ready dr.after dr.can dr.since fault at_begun.publication is)

    dropped : Rests sectors honest history with_publication at_begun
    dropped = subst (λ (s : ServiceView D). Rests sectors honest history with_publication s) (sym (ap (λ (c : Calls D). c.service) late.same))
        (rests_undrafted sectors honest history with_publication)

    abbrev late_run : List Happening
    late_run = dr.before ++ begin outcome ∷ dr.after

    late_runs : Goes sectors honest history (inner_service first) late_run at_begun
    late_runs = goes_on sectors honest history (inner_service first) (prepared dr.then) at_begun dr.before (begin outcome ∷ dr.after) dr.goes
        (goes_rest sectors honest history (prepared dr.then) with_publication at_begun (begin outcome ∷ dr.after) (begun_late outcome is_drafted) dropped)

    late_drafts : (at : Option ℕ) → IfDrafts (inner_service first) at_begun late_run at
    late_drafts at = no_drafts (inner_service first) at_begun late_run at (ap (λ (c : Calls D). c.service.drafting) late.same)

    late_is_begun : Begun late_run outcome so.0
    late_is_begun = record {
      before = dr.before;
      after = dr.after;
      is = refl;
      count = dr.count;
      fits = is_beginning at_ready.size (drafted_now dr.then) outcome at_begun.publication is_drafted;
      along = apart_meanwhile dr.after dr.apart;
    }

  -- ---- a reply

  module _ (first old new : PreparingReplies D) (run : List Happening) (fixed : Option ℕ) (request : RequestView) (reply : ReplyView)
      (goes : Goes sectors honest history (inner_service first) run (inner_service old))
      (drafts : IfDrafts (inner_service first) (inner_service old) run fixed) (begun : IfBegun old run fixed) where
    abbrev before : ServiceView D
    before = inner_service old

    abbrev now : ServiceView D
    now = inner_service new

    -- to a request for no call of a publication
    module _ (ready : MapReplies D) (same : ready ≡ old.replies) (whole : beginning_of new ≡ beginning_of old)
        (unasked : is_to_publish old.replies request ≡ false)
        (is : ServiceReplies sectors honest history faults ready request reply new.replies) where
      abbrev happenings : List Happening
      happenings = is.0.0

      rests : Rests sectors honest history before (asked_service ready)
      rests = subst (λ (r : MapReplies D). Rests sectors honest history before (asked_service r)) (sym same) (rests_none sectors honest history before)

      more : Goes sectors honest history before happenings now
      more = goes_all sectors honest history before (asked_service ready) now happenings rests is.0.2

      apart : AreApart happenings
      apart = method_apart (DiskFailed faults (asked_service ready) now) (status_of (asked_service ready)) (status_view now)
          (asked_for (access_of ready) request) (method_on request.method (asked_for (access_of ready) request)) (ask_of (tags_of ready) request) request.body
          (ap (λ (r : MapReplies D). is_to_publish r request) same ∙ unasked) reply happenings is.0.1

      kept : KeepsDraft before.drafting now.drafting
      kept = subst (λ (r : MapReplies D). KeepsDraft (asked_service r).drafting now.drafting) same
          (draft_after sectors honest history (asked_service ready) now happenings is.0.2)

      drafts_next : KeepsDraft before.drafting now.drafting → IfDrafts (inner_service first) now (run ++ happenings) fixed
      drafts_next (inl stays) d there =
          let so_far = drafts d (sym stays ∙ there) in
          (so_far.0, so_far.1, drafts_on (inner_service first) before now run happenings so_far.0 so_far.2 apart more stays)
      drafts_next (inr gone) d there = absurd (is_none now.drafting d there gone)

      begun_next : IfBegun new (run ++ happenings) fixed
      begun_next beginning there =
          let so_far = begun beginning (sym whole ∙ there) in (
            still_none before.drafting now.drafting kept so_far.0,
            so_far.1,
            so_far.2,
            begun_on run happenings beginning so_far.1 so_far.3 (apart_meanwhile happenings apart),
          )

      beside_goes : GoesMeanwhile first new (meanwhile new (run ++ happenings) fixed)
      beside_goes = record {
        here = refl;
        goes = goes_on sectors honest history (inner_service first) before now run happenings goes more;
        drafts = drafts_next kept;
        begun = begun_next;
      }

    -- to a call of a publication, before which what was prepared is dropped or given up
    module _ (done : List Happening) (ready : MapReplies D) (goes_ready : Goes sectors honest history before done (asked_service ready))
        (bare : (asked_service ready).drafting ≡ None) (whole : beginning_of new ≡ None)
        (is : ServiceReplies sectors honest history faults ready request reply new.replies) where
      abbrev answered : List Happening
      answered = is.0.0

      asked_goes : GoesMeanwhile first new (meanwhile new ((run ++ done) ++ answered) None)
      asked_goes = record {
        here = refl;
        goes = goes_on sectors honest history (inner_service first) (asked_service ready) now (run ++ done) answered
            (goes_on sectors honest history (inner_service first) before (asked_service ready) run done goes goes_ready)
            (goes_all sectors honest history (asked_service ready) (asked_service ready) now answered
            (rests_none sectors honest history (asked_service ready)) is.0.2);
        drafts = no_drafts (inner_service first) now ((run ++ done) ++ answered) None
            (still_none (asked_service ready).drafting now.drafting
            (draft_after sectors honest history (asked_service ready) now answered is.0.2) bare);
        begun = none_begun new ((run ++ done) ++ answered) None whole;
      }

    abbrev Told : Type 0
    Told = (then : Meanwhile D) × TellsMeanwhile sectors honest history faults (meanwhile old run fixed) request reply then
        × GoesMeanwhile first new then

    -- what is told now
    told_now : (done : List Happening) (ready : MapReplies D)
        → IsMadeReady sectors honest history faults old request done ready (beginning_of new)
        → ServiceReplies sectors honest history faults ready request reply new.replies → Told
    told_now done ready (inl made) is =
        let run_is : run ++ is.0.0 ≡ (run ++ done) ++ is.0.0 =
        sym (ap (λ (l : List Happening). (run ++ l) ++ is.0.0) made.0 ∙ ap (λ (l : List Happening). l ++ is.0.0) (append-nil run)) in (
          meanwhile new (run ++ is.0.0) fixed,
          inl (done, ready, inl made, (is.0.0, is.0.1, is.0.2, run_is, is.1, is.2, is.3), inl (refl, made.3)),
          beside_goes ready made.1 made.2 made.3 is,
        )
    told_now done ready (inr (inl made)) is = (
      meanwhile new ((run ++ done) ++ is.0.0) None,
      inl (done, ready, inr (inl made), (is.0.0, is.0.1, is.0.2, refl, is.1, is.2, is.3), inr refl),
      asked_goes done ready
          (subst (λ (l : List Happening). Goes sectors honest history before l (asked_service ready)) (sym made.0)
          (subst (λ (r : MapReplies D). Rests sectors honest history before (asked_service r)) (sym made.1)
          (rests_undrafted sectors honest history before)))
          (ap (λ (r : MapReplies D). (asked_service r).drafting) made.1) made.2 is,
    )
    told_now done ready (inr (inr made)) is =
        let cancelled : ServiceView D = made.1.service in
        let one : Goes sectors honest history before (cancel made.0 ∷ []) (asked_service ready) = (
          before,
          cancelled,
          rests_none sectors honest history before,
          made.6.takes,
          subst (λ (r : MapReplies D). Rests sectors honest history cancelled (asked_service r)) (sym made.3)
              (rests_undrafted sectors honest history cancelled),
        ) in (
          meanwhile new ((run ++ done) ++ is.0.0) None,
          inl (done, ready, inr (inr made), (is.0.0, is.0.1, is.0.2, refl, is.1, is.2, is.3), inr refl),
          asked_goes done ready (subst (λ (l : List Happening). Goes sectors honest history before l (asked_service ready)) (sym made.2) one)
              (ap (λ (r : MapReplies D). (asked_service r).drafting) made.3) made.4 is,
        )

    -- tickets are held after it: nothing of the disk changes, and no archive
    late_held : (outcome : Result ℕ ServiceFault) → BeginsLate old.replies.calls outcome new.replies.calls
        → KeepsTickets honest history old.replies.calls new.replies.calls
    late_held outcome late place ticketed held =
        let service = ap (λ (c : Calls D). c.service) late.same in
        subst (λ (oldest : ℕ). IsHeld honest history place ticketed oldest now) (sym (ap (λ (c : Calls D). c.oldest) late.same))
        (held_unasked sectors honest history place ticketed old.replies.calls.oldest before now held
        (ap (λ (s : ServiceView D). s.disk) service) (ap (λ (s : ServiceView D). s.size) service)
        (ap (λ (s : ServiceView D). s.generation) service))

    told_late : (outcome : Result ℕ ServiceFault) → IsToBegin old.replies request → reply ≡ left_reply outcome
        → new.replies ≡ record old.replies { calls = new.replies.calls } → beginning_of new ≡ None
        → BeginsLate old.replies.calls outcome new.replies.calls → Told
    told_late outcome asked is same none late =
        let so = drafts late.ready.draft late.ready.is in (
          meanwhile new (late_run first old new run fixed outcome late so) None,
          inr (inl (
            asked,
            outcome,
            is,
            so.2.before,
            so.2.after,
            so.2.is,
            so.1 ∙ ap (λ (n : ℕ). Some n) so.2.count,
            refl,
            refl,
            ap (λ (r : MapReplies D). settings_of r) same,
            late_held outcome late,
            inl (ap (λ (c : Calls D). c.oldest) late.same),
            late,
          )),
          record {
            here = refl;
            goes = late_runs first old new run fixed outcome late so;
            drafts = late_drafts first old new run fixed outcome late so None;
            begun = none_begun new (late_run first old new run fixed outcome late so) None none;
          },
        )

    -- ---- the answer to a whole publication

    module _ (outcome : Result Published ServiceFault) (asked : IsToPublishWhole old.replies request) (is : reply ≡ published_reply outcome)
        (same : new.replies ≡ record old.replies { calls = new.replies.calls }) (none : beginning_of new ≡ None) where
      abbrev earlier : Calls D
      earlier = old.replies.calls

      abbrev later : Calls D
      later = new.replies.calls

      whole_archives : GoesToItsEnd sectors honest history faults earlier outcome later → KeepsArchivesOn old.replies request reply new.replies
      whole_archives ends =
          subst (λ (a : Asked). KeepsOldest a reply.status earlier later) (sym asked.0)
          (published_by_reply outcome reply earlier later is (ap (λ (c : Calls D). c.oldest) ends.same)
          (λ device. (
            unbroken_before_rest sectors honest history before now outcome device ends.takes,
            breaks_in_rest sectors honest history before now outcome device ends.takes,
          )))

      -- its steps follow
      told_made : (left : ℕ) → beginning_of old ≡ Some (Ok left) → GoesToItsEnd sectors honest history faults earlier outcome later → Told
      told_made left has ends =
          let so = begun (Ok left) has in
          let steps : List (Result ℕ ServiceFault) = ends.takes.before ++ ends.takes.last ∷ [] in (
            meanwhile new (run ++ map step steps) None,
            inr (inr (
              asked,
              Ok left,
              steps,
              (
                outcome,
                is,
                device_failed outcome (faults before.disk) (faults now.disk) ends.failed,
                rest_told outcome now ends.takes.last ends.takes.ends,
                Ok left ∷ ends.takes.before,
                All-cons IsUnfinished (Ok left) ends.takes.before so.3.fits ends.takes.unfinished,
                ap (λ (l : Result ℕ ServiceFault). Ok left ∷ (ends.takes.before ++ l ∷ []))
                    (rest_last outcome now ends.takes.last ends.takes.ends),
              ),
              so.3.before,
              so.3.after,
              so.3.is,
              so.3.along,
              so.2 ∙ ap (λ (n : ℕ). Some n) so.3.count,
              refl,
              refl,
              ap (λ (r : MapReplies D). settings_of r) same,
              ends.held,
              whole_archives ends,
              ends.takes.takes,
            )),
            record {
              here = refl;
              goes = goes_on sectors honest history (inner_service first) before now run (map step steps) goes
                  (goes_all sectors honest history before before now (map step steps) (rests_none sectors honest history before) ends.takes.takes);
              drafts = no_drafts (inner_service first) now (run ++ map step steps) None
                  (still_none before.drafting now.drafting (draft_after sectors honest history before now (map step steps) ends.takes.takes) so.0);
              begun = none_begun new (run ++ map step steps) None none;
            },
          )

      -- or its map was refused
      told_unmade : (fault : ServiceFault) → beginning_of old ≡ Some (Err fault) → outcome ≡ Err fault → later ≡ earlier → Told
      told_unmade fault has refused stays =
          let so = begun (Err fault) has in (
            meanwhile new (run ++ map step []) None,
            inr (inr (
              asked,
              Err fault,
              [],
              (
                outcome,
                is,
                subst (λ (o : Result Published ServiceFault). IfErr o (λ f. f ≡ Device → DiskFailed faults before now)) (sym refused)
                    (λ device. absurd (so.3.fits device)),
                subst (λ (o : Result Published ServiceFault). IfOk o (IsTold (status_of now))) (sym refused) tt,
                [],
                All-nil IsUnfinished,
                ap (λ (o : Result Published ServiceFault). last_outcome o ∷ []) (sym refused),
              ),
              so.3.before,
              so.3.after,
              so.3.is,
              so.3.along,
              so.2 ∙ ap (λ (n : ℕ). Some n) so.3.count,
              refl,
              refl,
              ap (λ (r : MapReplies D). settings_of r) same,
              (λ place ticketed held. subst (λ (c : Calls D). IsHeld honest history place ticketed c.oldest c.service) (sym stays) held),
              inl (ap (λ (c : Calls D). c.oldest) stays),
              ap (λ (c : Calls D). c.service) stays,
            )),
            record {
              here = refl;
              goes = goes_on sectors honest history (inner_service first) before now run [] goes
                  (subst (λ (c : Calls D). Rests sectors honest history before c.service) (sym stays) (rests_none sectors honest history before));
              drafts = no_drafts (inner_service first) now (run ++ map step []) None (ap (λ (c : Calls D). c.service.drafting) stays ∙ so.0);
              begun = none_begun new (run ++ map step []) None none;
            },
          )

      told_whole : (beginning : Result ℕ ServiceFault) → beginning_of old ≡ Some beginning
          → EndsLate sectors honest history faults beginning earlier outcome later → Told
      told_whole (Ok left) has ends = told_made left has ends
      told_whole (Err fault) has ends = told_unmade fault has ends.0 ends.1

    -- ---- a reply of whatever kind

    told : PreparingReplied sectors honest history faults old request reply new → Told
    told (inl is) = told_now is.0 is.1 is.2 is.3
    told (inr (inl is)) = told_late is.0 is.1 is.2 is.3 is.4 is.5
    told (inr (inr is)) = told_whole is.1 is.2 is.3 is.4 is.6 is.0 is.5 is.7

  -- ---- by whatever was told so far

  -- what holds of the state with its own run holds of it
  of_here : (first old : PreparingReplies D) (so : Meanwhile D) (P : Meanwhile D → Type 0) → GoesMeanwhile first old so
      → P (meanwhile old so.run so.fixed) → P so
  of_here first old so P along holds = subst P (sym along.here) holds

  pub replied : (first old : PreparingReplies D) (so : Meanwhile D) (request : RequestView) (reply : ReplyView) (new : PreparingReplies D)
      → GoesMeanwhile first old so → PreparingReplied sectors honest history faults old request reply new
      → (then : Meanwhile D) × TellsMeanwhile sectors honest history faults so request reply then × GoesMeanwhile first new then
  replied first old so request reply new along is =
      of_here first old so
      (λ (m : Meanwhile D). (then : Meanwhile D) × TellsMeanwhile sectors honest history faults m request reply then × GoesMeanwhile first new then)
      along (told first old new so.run so.fixed request reply along.goes along.drafts along.begun is)

  -- ---- a read of a download

  pub read_told : (first old : PreparingReplies D) (so : Meanwhile D) (ticket : Ticket) (offset count : ℕ) (outcome : Result (List ℕ) RestFault)
      (new : PreparingReplies D) → GoesMeanwhile first old so → PreparingReads sectors honest history faults old ticket offset count outcome new
      → (then : Meanwhile D) × TellsMeanwhileRead sectors honest history faults so ticket offset count outcome then × GoesMeanwhile first new then
  read_told first old so ticket offset count outcome new along is =
      let before : ServiceView D = inner_service old in
      let now : ServiceView D = inner_service new in
      let same : now.drafting ≡ before.drafting = ap (λ (s : ServiceView D). s.drafting) is.0.0.same in
      let rests : Rests sectors honest history before now = record {
        same = is.0.0.same ∙ ap (λ (d : Option DraftedView). record before { disk = now.disk; drafting = d }) (sym same)
            ∙ ap (λ (p : PublishedView). record before { disk = now.disk; drafting = now.drafting; published = p })
            (sym (ap (λ (s : ServiceView D). s.published) is.0.0.same));
        disk = is.0.0.disk;
        up = is.0.0.up;
      } in
      of_here first old so
      (λ (m : Meanwhile D). (then : Meanwhile D) × TellsMeanwhileRead sectors honest history faults m ticket offset count outcome then
      × GoesMeanwhile first new then) along (
        meanwhile new so.run so.fixed,
        (is, refl, refl),
        record {
          here = refl;
          goes = goes_rest sectors honest history (inner_service first) before now so.run along.goes rests;
          drafts = λ d there. let so_far = along.drafts d (sym same ∙ there) in
              (so_far.0, so_far.1, drafts_rest (inner_service first) before now so.run so_far.0 so_far.2 rests same);
          begun = λ beginning there. let so_far = along.begun beginning (sym is.1 ∙ there) in
              (same ∙ so_far.0, so_far.1, so_far.2, so_far.3);
        },
      )

  -- ---- a step of a preparation

  module _ (first old new : PreparingReplies D) (run : List Happening) (fixed : Option ℕ)
      (goes : Goes sectors honest history (inner_service first) run (inner_service old))
      (drafts : IfDrafts (inner_service first) (inner_service old) run fixed) (begun : IfBegun old run fixed) where
    abbrev then : ServiceView D
    then = inner_service old

    abbrev there : ServiceView D
    there = inner_service new

    abbrev ToldPrepared : Type 0
    ToldPrepared = (next : Meanwhile D) × TellsPrepared sectors honest history faults (meanwhile old run fixed) next × GoesMeanwhile first new next

    -- nothing happens
    module _ (is : PreparingStep sectors honest history faults old new) where
      service_same : there ≡ record then { drafting = there.drafting }
      service_same = ap (λ (r : MapReplies D). asked_service r) is.same

      disk_same : there.disk ≡ then.disk
      disk_same = ap (λ (s : ServiceView D). s.disk) service_same

      prepared_rests : Rests sectors honest history then there
      prepared_rests = record {
        same = service_same ∙ ap (λ (d : D). record then { disk = d; drafting = there.drafting }) (sym disk_same)
            ∙ ap (λ (p : PublishedView). record then { disk = there.disk; drafting = there.drafting; published = p })
            (sym (ap (λ (s : ServiceView D). s.published) service_same));
        disk = subst (λ (d : D). OnlyReads sectors honest history then.disk d) (sym disk_same) (reads_none then.disk);
        up = λ stored up is_honest. is.up stored up;
      }

      now_goes : Goes sectors honest history (inner_service first) run there
      now_goes = goes_rest sectors honest history (inner_service first) then there run goes prepared_rests

      -- a whole publication that has begun stays
      still_begun : KeepsDraft then.drafting there.drafting → (beginning_of new ≡ beginning_of old) ⊎ ((beginning_of new ≡ None) × (has_begun old ≡ false))
          → IfBegun new run fixed
      still_begun stays (inl same) beginning has =
          let so_far = begun beginning (sym same ∙ has) in
          (still_none then.drafting there.drafting stays so_far.0, so_far.1, so_far.2, so_far.3)
      still_begun stays (inr none) beginning has = absurd (is_none (beginning_of new) beginning has none.0)

      -- the map of the publication in the making stays
      stays_as_told : there.drafting ≡ then.drafting → GoesMeanwhile first new (meanwhile new run fixed)
      stays_as_told same = record {
        here = refl;
        goes = now_goes;
        drafts = λ d some. let so_far = drafts d (sym same ∙ some) in
            (so_far.0, so_far.1, drafts_rest (inner_service first) then there run so_far.0 so_far.2 prepared_rests same);
        begun = still_begun (inl same) is.whole;
      }

      told_preparing : (there.drafting ≡ then.drafting) ⊎ (there.drafting ≡ None)
          ⊎ (CanPrepare then × (there.drafting ≡ Some (drafted_now then)) × (beginning_of new ≡ None)) → ToldPrepared
      told_preparing (inl same) = (meanwhile new run fixed, inl (is, refl, inl (inl refl)), stays_as_told same)
      told_preparing (inr (inl none)) = (
        meanwhile new run fixed,
        inl (is, refl, inl (inl refl)),
        record {
          here = refl;
          goes = now_goes;
          drafts = no_drafts (inner_service first) there run fixed none;
          begun = still_begun (inr none) is.whole;
        },
      )
      told_preparing (inr (inr fixes)) = (
        meanwhile new run (Some (length run)),
        inl (is, refl, inr refl),
        record {
          here = refl;
          goes = now_goes;
          drafts = λ d some. (
            length run,
            refl,
            drafts_now (inner_service first) then there run goes prepared_rests fixes.0
                (service_same ∙ ap (λ (o : Option DraftedView). record then { drafting = o }) fixes.1),
          );
          begun = none_begun new run (Some (length run)) fixes.2;
        },
      )

    -- a whole publication begins
    told_begins : (outcome : Result ℕ ServiceFault) → BeginsWhole sectors honest history faults old outcome new → ToldPrepared
    told_begins outcome is =
        let so = drafts is.2.ready.draft is.2.ready.is in
        let next : List Happening = so.2.before ++ begin outcome ∷ so.2.after in (
          meanwhile new next fixed,
          inr (inl (outcome, is, so.2.before, so.2.after, so.2.is, so.1 ∙ ap (λ (n : ℕ). Some n) so.2.count, refl, refl)),
          record {
            here = refl;
            goes = late_runs first old new run fixed outcome is.2 so;
            drafts = late_drafts first old new run fixed outcome is.2 so fixed;
            begun = λ beginning has. (
              ap (λ (c : Calls D). c.service.drafting) is.2.same,
              so.0,
              so.1,
              subst (λ (b : Result ℕ ServiceFault). Begun next b so.0) (is_it (beginning_of new) outcome beginning is.0 has)
                  (late_is_begun first old new run fixed outcome is.2 so),
            );
          },
        )

    -- what is known of it after a step
    stepped_begun : (outcome : Result ℕ ServiceFault) → there.drafting ≡ None
        → GoesOnWhole outcome (beginning_of old) (beginning_of new) → IfOk outcome (λ left. 0 < left)
        → IfBegun new (run ++ step outcome ∷ []) fixed
    stepped_begun (Ok left) none same some beginning has =
        let so_far = begun beginning (sym same ∙ has) in
        (none, so_far.1, so_far.2, begun_on run (step (Ok left) ∷ []) beginning so_far.1 so_far.3 (some, tt))
    stepped_begun (Err fault) none ended some beginning has =
        none_begun new (run ++ step (Err fault) ∷ []) fixed ended beginning has

    -- it goes on by a step
    told_steps : (outcome : Result ℕ ServiceFault) → StepsWhole sectors honest history faults old outcome new → ToldPrepared
    told_steps outcome is =
        let next : List Happening = run ++ step outcome ∷ [] in
        let has = begun_left (beginning_of old) is.0 in
        let none : there.drafting ≡ None = still_none then.drafting there.drafting is.3.takes.drafting (begun (Ok has.0) has.1).0 in (
          meanwhile new next fixed,
          inr (inr (inl (outcome, is, refl, refl))),
          record {
            here = refl;
            goes = goes_on sectors honest history (inner_service first) then there run (step outcome ∷ []) goes
                (goes_all sectors honest history then then there (step outcome ∷ []) (rests_none sectors honest history then) (there, is.3.takes, refl));
            drafts = no_drafts (inner_service first) there next fixed none;
            begun = stepped_begun outcome none is.1 is.3.unfinished;
          },
        )

    -- it is cancelled
    told_cancels : (outcome : Result (Unit {0}) ServiceFault) → CancelsWhole sectors honest history faults old outcome new → ToldPrepared
    told_cancels outcome is =
        let next : List Happening = run ++ cancel outcome ∷ [] in
        let has = begun_left (beginning_of old) is.0 in
        let none : there.drafting ≡ None = still_none then.drafting there.drafting is.3.takes.drafting (begun (Ok has.0) has.1).0 in (
          meanwhile new next None,
          inr (inr (inr (inl (outcome, is, refl, refl)))),
          record {
            here = refl;
            goes = goes_on sectors honest history (inner_service first) then there run (cancel outcome ∷ []) goes
                (goes_all sectors honest history then then there (cancel outcome ∷ []) (rests_none sectors honest history then) (there, is.3.takes, refl));
            drafts = no_drafts (inner_service first) there next None none;
            begun = none_begun new next None is.1;
          },
        )

    -- a part of a tile is read
    part_as_told : ReadsPart sectors honest history faults old new → GoesMeanwhile first new (meanwhile new run fixed)
    part_as_told is =
        let service_same : there ≡ record then { disk = there.disk; published = there.published } =
        ap (λ (r : MapReplies D). asked_service r) is.same in
        let same : there.drafting ≡ then.drafting = ap (λ (s : ServiceView D). s.drafting) service_same in
        let rests : Rests sectors honest history then there = record {
          same = service_same
              ∙ ap (λ (d : Option DraftedView). record then { disk = there.disk; drafting = d; published = there.published }) (sym same);
          disk = is.disk;
          up = is.up;
        } in record {
          here = refl;
          goes = goes_rest sectors honest history (inner_service first) then there run goes rests;
          drafts = λ d some. let so_far = drafts d (sym same ∙ some) in
              (so_far.0, so_far.1, drafts_rest (inner_service first) then there run so_far.0 so_far.2 rests same);
          begun = λ beginning has. let so_far = begun beginning (sym is.whole ∙ has) in
              (same ∙ so_far.0, so_far.1, so_far.2, so_far.3);
        }

    told_part : ReadsPart sectors honest history faults old new → ToldPrepared
    told_part is = (meanwhile new run fixed, inr (inr (inr (inr (is, refl, refl)))), part_as_told is)

    told_prepared : Prepares sectors honest history faults old new → ToldPrepared
    told_prepared (inl is) = told_preparing is is.draft
    told_prepared (inr (inl is)) = told_begins is.0 is.1
    told_prepared (inr (inr (inl is))) = told_steps is.0 is.1
    told_prepared (inr (inr (inr (inl is)))) = told_cancels is.0 is.1
    told_prepared (inr (inr (inr (inr is)))) = told_part is

    -- for a request of a connection
    told_for : (connection : ℕ) (request : RequestView) → PreparesFor sectors honest history faults old connection request new
        → (next : Meanwhile D) × TellsPreparedFor sectors honest history faults (meanwhile old run fixed) connection request next × GoesMeanwhile first new next
    told_for connection request (inl is) = let told = told_prepared is.1 in (told.0, (told.1, inl is.0), told.2)
    told_for connection request (inr (other, inl is)) =
        let step : PreparingStep sectors honest history faults old new = step_nothing sectors honest history faults old new is.0 (inl is.1) in (
          meanwhile new run fixed,
          (inl (step, refl, inl (inl refl)), inr (refl, refl)),
          stays_as_told step (ap (λ (r : MapReplies D). (asked_service r).drafting) is.0),
        )
    told_for connection request (inr (other, inr is)) =
        (meanwhile new run fixed, (inr (inr (inr (inr (is, refl, refl)))), inr (refl, refl)), part_as_told is)

  pub prepared_told : (first old : PreparingReplies D) (so : Meanwhile D) (connection : ℕ) (request : RequestView) (new : PreparingReplies D)
      → GoesMeanwhile first old so → PreparesFor sectors honest history faults old connection request new
      → (next : Meanwhile D) × TellsPreparedFor sectors honest history faults so connection request next × GoesMeanwhile first new next
  prepared_told first old so connection request new along is =
      of_here first old so
      (λ (m : Meanwhile D). (next : Meanwhile D) × TellsPreparedFor sectors honest history faults m connection request next × GoesMeanwhile first new next)
      along (told_for first old new so.run so.fixed along.goes along.drafts along.begun connection request is)
