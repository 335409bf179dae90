-- What happens to a map whose edits are to be on two machines.
use Rattle.std.proofs.Common.{◌≡◌, ℕ, List, [], Option, None, Result, inl, inr, refl, sym, ap, subst}
use Rattle.http_requests.specs.Requests.{RequestView}
use Rattle.http_serve.specs.Reply.{ReplyView}
use Rattle.http_serve.specs.declared.handlers.RestFault.{RestFault}
use Rattle.http_serve.specs.declared.handlers.Ticket.{Ticket}
use Rattle.http_listen.specs.Connections.{Event, Serves}
use Rattle.http_listen.specs.Conversations.{Deed, Runs}
use Rattle.http_listen.specs.Deeds.{AreEventsOf}
use Rattle.http_listen.proofs.DeedLemmas.{deeds_serve}
use Rattle.map_replies.proofs.Goes.{passes_goes}
use Rattle.map_replies.proofs.Meanwhiles.{GoesMeanwhile, goes_from, replied, read_told, prepared_told}
use Rattle.map_replies.proofs.Passing.{Passes, passes_none, takes_between}
use Rattle.map_replies.specs.Confirming.{Confirming, confirming, inner_of, confirmed_ticket, confirmed_without_draft, IsUnheard, MayAnswer, KeepsHeld, Hears, SaysMore}
use Rattle.map_replies.specs.Confirming.{ConfirmedReplied, ConfirmedReads, ConfirmedPrepares, TellsConfirmed, TellsConfirmedRead, TellsConfirmedFor}
use Rattle.map_replies.specs.Preparing.{Meanwhile, meanwhile, inner_service, TellsMeanwhile, TellsMeanwhileRead, TellsPreparedFor}
use Rattle.map_replies.specs.declared.confirming.ConfirmedReplies.{ConfirmedReplies}
use Rattle.map_replies.specs.declared.preparing.PreparingReplies.{PreparingReplies}
use Rattle.service_laws.specs.Moments.{TakesBetweenReads}
use Rattle.map_server.proofs.Followed.{events_along}
use Rattle.sector_disk.specs.Disk.{History}
use Rattle.tile_service.proofs.Runs.Callers.{takes_run}
use Rattle.tile_service.specs.Machine.{Happening}
use Rattle.tile_service.specs.Runs.{TakesRun}

module _ {D : Type 0} (sectors : D → ℕ) (honest : D → Type 0) (history : D → History) (faults : D → ℕ) where
  -- the events that such a map answers, and those that report what happens to it
  abbrev pub ConfirmedServes : ConfirmedReplies D → List Event → ConfirmedReplies D → Type 0
  ConfirmedServes = Serves (ConfirmedReplied sectors honest history faults)
      (ConfirmedReads sectors honest history faults) (ConfirmedPrepares sectors honest history faults)

  abbrev pub TellsEach : Confirming D → List Event → Confirming D → Type 0
  TellsEach = Serves (TellsConfirmed sectors honest history faults)
      (TellsConfirmedRead sectors honest history faults) (TellsConfirmedFor sectors honest history faults)

  -- since a first state
  module _ (first : PreparingReplies D) where
    abbrev Along : ConfirmedReplies D → Confirming D → Type 0
    Along now so = (so.replies ≡ now) × GoesMeanwhile sectors honest history faults first now.inner (inner_of so)

    -- by what has happened to the service then
    then_of : (new : ConfirmedReplies D) (P : Meanwhile D → Type 0) (told : Meanwhile D) → P told
        → GoesMeanwhile sectors honest history faults first new.inner told
        → P (meanwhile new.inner told.run told.fixed)
        × GoesMeanwhile sectors honest history faults first new.inner (meanwhile new.inner told.run told.fixed)
    then_of new P told is goes = (
      subst P goes.here is,
      subst (λ (m : Meanwhile D). GoesMeanwhile sectors honest history faults first new.inner m) goes.here goes,
    )

    reply_along : (old : ConfirmedReplies D) (so : Confirming D) (request : RequestView) (reply : ReplyView) (new : ConfirmedReplies D) → Along old so
        → ConfirmedReplied sectors honest history faults old request reply new
        → (then : Confirming D) × TellsConfirmed sectors honest history faults so request reply then × Along new then
    reply_along old so request reply new along (inl is) = (
      confirming new so.run so.fixed,
      inl (subst (λ (s : ConfirmedReplies D). IsUnheard s request reply new) (sym along.0) is, refl, refl),
      (
        refl,
        subst (λ (i : PreparingReplies D). GoesMeanwhile sectors honest history faults first i (meanwhile i so.run so.fixed)) (sym is.same)
            (subst (λ (s : ConfirmedReplies D). GoesMeanwhile sectors honest history faults first old.inner (meanwhile s.inner so.run so.fixed)) along.0 along.1),
      ),
    )
    reply_along old so request reply new along (inr is) =
        let told = replied sectors honest history faults first old.inner (inner_of so) request is.0 new.inner along.1 is.2 in
        let there = then_of new (λ (m : Meanwhile D). TellsMeanwhile sectors honest history faults (inner_of so) request is.0 m) told.0 told.1 told.2 in (
          confirming new told.0.run told.0.fixed,
          inr (
            is.0,
            subst (λ (s : ConfirmedReplies D). MayAnswer s request) (sym along.0) is.1,
            there.0,
            subst (λ (s : ConfirmedReplies D). KeepsHeld s new) (sym along.0) is.3,
            subst (λ (s : ConfirmedReplies D). SaysMore s request is.0 reply new) (sym along.0) is.4,
          ),
          (refl, there.1),
        )

    read_along : (old : ConfirmedReplies D) (so : Confirming D) (ticket : Ticket) (offset count : ℕ) (outcome : Result (List ℕ) RestFault)
        (new : ConfirmedReplies D) → Along old so → ConfirmedReads sectors honest history faults old ticket offset count outcome new
        → (then : Confirming D) × TellsConfirmedRead sectors honest history faults so ticket offset count outcome then × Along new then
    read_along old so ticket offset count outcome new along is =
        let told = read_told sectors honest history faults first old.inner (inner_of so) ticket offset count outcome new.inner along.1 is.0 in
        let there = then_of new (λ (m : Meanwhile D). TellsMeanwhileRead sectors honest history faults (inner_of so) ticket offset count outcome m)
        told.0 told.1 told.2 in (
          confirming new told.0.run told.0.fixed,
          (there.0, subst (λ (s : ConfirmedReplies D). new.standbys ≡ s.standbys) (sym along.0) is.1),
          (refl, there.1),
        )

    prepare_along : (old : ConfirmedReplies D) (so : Confirming D) (connection : ℕ) (request : RequestView) (new : ConfirmedReplies D) → Along old so
        → ConfirmedPrepares sectors honest history faults old connection request new
        → (then : Confirming D) × TellsConfirmedFor sectors honest history faults so connection request then × Along new then
    prepare_along old so connection request new along is =
        let told = prepared_told sectors honest history faults first old.inner (inner_of so) connection request new.inner along.1 is.0 in
        let there = then_of new (λ (m : Meanwhile D). TellsPreparedFor sectors honest history faults (inner_of so) connection request m)
        told.0 told.1 told.2 in (
          confirming new told.0.run told.0.fixed,
          (there.0, subst (λ (s : ConfirmedReplies D). Hears s request new) (sym along.0) is.1),
          (refl, there.1),
        )

  -- The replies of stretches that were served report one run of the service.
  pub confirmed_run : (old : ConfirmedReplies D) (served : List Event) (new : ConfirmedReplies D) → ConfirmedServes (confirmed_without_draft old) served new
      → (run : List Happening) × (fixed : Option ℕ)
      × TellsEach (confirming (confirmed_without_draft old) [] None) served (confirming new run fixed)
      × TakesRun sectors honest history (inner_service old.inner) run (inner_service new.inner)
      × TakesBetweenReads sectors honest history (inner_service old.inner) run (inner_service new.inner)
  confirmed_run old served new is =
      let first = old.inner in
      let along = events_along (ConfirmedReplied sectors honest history faults) (TellsConfirmed sectors honest history faults)
      (ConfirmedReads sectors honest history faults) (TellsConfirmedRead sectors honest history faults)
      (ConfirmedPrepares sectors honest history faults) (TellsConfirmedFor sectors honest history faults)
      (Along first) (reply_along first) (read_along first) (prepare_along first)
      served (confirmed_without_draft old) new (confirming (confirmed_without_draft old) [] None)
      (refl, goes_from sectors honest history faults first) is in
      let passes : Passes sectors honest history (inner_service first) along.0.run (inner_service new.inner) =
      passes_goes sectors honest history (inner_service first) (inner_service first) (inner_service new.inner) [] along.0.run
      (passes_none sectors honest history (inner_service first)) along.2.1.goes in (
        along.0.run,
        along.0.fixed,
        subst (λ (s : ConfirmedReplies D). TellsEach (confirming (confirmed_without_draft old) [] None) served (confirming s along.0.run along.0.fixed))
            along.2.0 along.1,
        takes_run sectors honest history (inner_service first) along.0.run (inner_service new.inner) passes.run,
        takes_between sectors honest history (inner_service first) along.0.run (inner_service new.inner) passes,
      )

  -- what was done for connections of such a map
  abbrev pub ConfirmedRuns : ConfirmedReplies D → List Deed → ConfirmedReplies D → Type 0
  ConfirmedRuns = Runs (ConfirmedReplied sectors honest history faults)
      (ConfirmedReads sectors honest history faults) confirmed_ticket (ConfirmedPrepares sectors honest history faults)

  -- It reports one run of the service.
  pub confirmed_deeds : (old : ConfirmedReplies D) (deeds : List Deed) (new : ConfirmedReplies D) → ConfirmedRuns (confirmed_without_draft old) deeds new
      → (served : List Event) × AreEventsOf deeds served × (run : List Happening) × (fixed : Option ℕ)
      × TellsEach (confirming (confirmed_without_draft old) [] None) served (confirming new run fixed)
      × TakesRun sectors honest history (inner_service old.inner) run (inner_service new.inner)
      × TakesBetweenReads sectors honest history (inner_service old.inner) run (inner_service new.inner)
  confirmed_deeds old deeds new is =
      let all = deeds_serve (ConfirmedReplied sectors honest history faults)
      (ConfirmedReads sectors honest history faults) confirmed_ticket (ConfirmedPrepares sectors honest history faults) deeds
      (confirmed_without_draft old) new is in
      let told = confirmed_run old all.0 new all.1 in
      (all.0, all.2, told.0, told.1, told.2, told.3, told.4)
