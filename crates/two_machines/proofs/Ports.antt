-- What a port is given whose requests are a courier's.
use Rattle.std.proofs.Common.{◌≡◌, inl, inr, ℕ, ◌+◌, List, [], ◌∷◌, ◌++◌, length, map, Option, None, Result, refl, sym, ap, subst, ◌∙◌, arith, length-append}
use Rattle.std.proofs.lemmas.List.{append-nil}
use Rattle.sector_disk.specs.Disk.{History}
use Rattle.feature_model.specs.Data.{EditData}
use Rattle.http_requests.specs.Requests.{RequestView}
use Rattle.http_serve.specs.Reply.{ReplyView}
use Rattle.http_serve.specs.declared.handlers.RestFault.{RestFault}
use Rattle.http_serve.specs.declared.handlers.Ticket.{Ticket}
use Rattle.http_listen.specs.Connections.{Event, Serves}
use Rattle.tile_routes.specs.Methods.{method_on}
use Rattle.tile_routes.specs.declared.access.Access.{Access}
use Rattle.tile_service.specs.Machine.{Happening, begin, step, cancel}
use Rattle.tile_service.specs.Runs.{acknowledged}
use Rattle.tile_service.specs.Service.{ServiceView, status_of, status_view}
use Rattle.tile_service.specs.declared.fault.ServiceFault.{ServiceFault}
use Rattle.map_replies.specs.declared.calls.Calls.{Calls}
use Rattle.map_replies.specs.declared.service.MapReplies.{MapReplies}
use Rattle.map_replies.specs.declared.preparing.PreparingReplies.{PreparingReplies}
use Rattle.map_replies.specs.Conditions.{ask_of}
use Rattle.map_replies.specs.Meanings.{DiskFailed, Means, asked_for}
use Rattle.map_replies.specs.Preparing.{IsMadeReady, Meanwhile, TellsMeanwhileRead, TellsPrepared}
use Rattle.map_replies.specs.Preparing.{TellsPreparedFor, meanwhile, without_draft, inner_service}
use Rattle.map_replies.specs.State.{access_of, tags_of, asked_service}
use Rattle.map_server.proofs.Followed.{events_along}
use Rattle.two_machines.specs.Couriers.{IsOfCourier, TellsCourier}
use Rattle.two_machines.specs.Machines.{AreGiven}
use Rattle.two_machines.proofs.Asks.{means_given}
use Rattle.two_machines.proofs.Counts.{acknowledged_both, last_after, last_after_all}
use Rattle.two_machines.proofs.Lists.{given_on}
use Rattle.map_replies.proofs.Quiet.{AreQuiet, steps_quiet}
use Rattle.two_machines.proofs.Quieter.{as_many, none_acknowledged, quiet_between, quiet_given}

-- the number of the last edit
abbrev last_in : {D : Type 0} → MapReplies D → ℕ
last_in replies = (asked_service replies).journal.last

module _ {D : Type 0} (sectors : D → ℕ) (honest : D → Type 0) (history : D → History) (faults : D → ℕ) (first : ℕ) (edits : List EditData)
    (last : ℕ) where
  -- all that was given so far is the leader's, and there are as many edits as were acknowledged
  pub record IsAlong (s : Meanwhile D) : Type 0 where
    pub given : AreGiven first edits last s.run
    pub count : last_in s.replies.replies ≡ last + length (acknowledged s.run)

  -- no edit is made: calls that ask for none may come between others
  between : (old new : Meanwhile D) (before quiet after : List Happening) → IsAlong old → AreQuiet quiet → old.run ≡ before ++ after
      → new.run ≡ before ++ (quiet ++ after) → last_in new.replies.replies ≡ last_in old.replies.replies → IsAlong new
  between old new before quiet after along are was is same = record {
    given = subst (AreGiven first edits last) (sym is)
        (quiet_between first edits last before quiet after are (subst (AreGiven first edits last) was along.given));
    count = omega (
      arith,
      same,
      along.count,
      as_many before quiet after are,
      ap (λ (l : List Happening). length (acknowledged l)) was,
      ap (λ (l : List Happening). length (acknowledged l)) is,
    );
  }

  behind : (old new : Meanwhile D) (quiet : List Happening) → IsAlong old → AreQuiet quiet → new.run ≡ old.run ++ quiet
      → last_in new.replies.replies ≡ last_in old.replies.replies → IsAlong new
  behind old new quiet along are is same =
      between old new old.run quiet [] along are (sym (append-nil old.run))
      (is ∙ ap (λ (l : List Happening). old.run ++ l) (sym (append-nil quiet))) same

  nothing : (old new : Meanwhile D) → IsAlong old → new.run ≡ old.run → last_in new.replies.replies ≡ last_in old.replies.replies → IsAlong new
  nothing old new along is same = behind old new [] along tt (is ∙ sym (append-nil old.run)) same

  -- ---- what is done before a call of a publication

  record Readied (old ready : MapReplies D) (done : List Happening) : Type 0 where
    pub quiet : AreQuiet done
    pub same : last_in ready ≡ last_in old
    pub access : access_of old ≡ access_of ready

  readied : (old : PreparingReplies D) (request : RequestView) (done : List Happening) (ready : MapReplies D) (beginning : Option (Result ℕ ServiceFault))
      → IsMadeReady sectors honest history faults old request done ready beginning → Readied old.replies ready done
  readied old request done ready beginning (inl is) = record {
    quiet = subst AreQuiet (sym is.0) tt;
    same = ap (λ (r : MapReplies D). last_in r) is.1;
    access = ap (λ (r : MapReplies D). access_of r) (sym is.1);
  }
  readied old request done ready beginning (inr (inl is)) = record {
    quiet = subst AreQuiet (sym is.0) tt;
    same = ap (λ (r : MapReplies D). last_in r) is.1;
    access = ap (λ (r : MapReplies D). access_of r) (sym is.1);
  }
  readied old request done ready beginning (inr (inr is)) = record {
    quiet = subst AreQuiet (sym is.2) (tt, tt);
    same = ap (λ (r : MapReplies D). last_in r) is.3 ∙ ap (λ (c : Calls D). c.service.journal.last) is.6.same;
    access = ap (λ (r : MapReplies D). access_of r) (sym is.3);
  }

  -- ---- replies

  answered : (old new : Meanwhile D) (request : RequestView) (reply : ReplyView) (done : List Happening) (ready : MapReplies D)
      → IsAlong old → Readied old.replies.replies ready done → IsOfCourier first edits (access_of old.replies.replies) request
      → (happenings : List Happening)
      → Means (access_of ready) (tags_of ready) (DiskFailed faults (asked_service ready) (asked_service new.replies.replies))
      (status_of (asked_service ready)) (status_view (asked_service new.replies.replies)) request reply happenings
      → last_in new.replies.replies ≡ last_in ready + length (acknowledged happenings) → new.run ≡ old.run ++ done ++ happenings → IsAlong new
  answered old new request reply done ready along so asks happenings means more is =
      let asks_ready : IsOfCourier first edits (access_of ready) request =
      subst (λ (a : Access). IsOfCourier first edits a request) so.access asks in
      let counted : length (acknowledged (old.run ++ done)) ≡ length (acknowledged old.run) = omega (
        arith,
        ap length (acknowledged_both old.run done),
        length-append (acknowledged old.run) (acknowledged done),
        ap length (none_acknowledged done so.quiet),
      ) in
      let before : last_in ready ≡ last + length (acknowledged (old.run ++ done)) = omega (arith, so.same, along.count, counted) in
      let so_far : AreGiven first edits last (old.run ++ done) =
      given_on [] first edits last old.run done along.given (quiet_given first edits (last + length (acknowledged old.run)) done so.quiet) in
      let these : AreGiven first edits (last_in ready) happenings =
      means_given first edits (DiskFailed faults (asked_service ready) (asked_service new.replies.replies))
      (status_of (asked_service ready)) (status_view (asked_service new.replies.replies)) (asked_for (access_of ready) request) request.method
      (method_on request.method (asked_for (access_of ready) request)) (ask_of (tags_of ready) request) request.body refl asks_ready reply happenings means in
      record {
        given = subst (AreGiven first edits last) (sym is)
            (given_on [] first edits last (old.run ++ done) happenings so_far (subst (λ (n : ℕ). AreGiven first edits n happenings) before these));
        count = omega (
          arith,
          more,
          before,
          ap (λ (l : List Happening). length (acknowledged l)) is,
          ap length (acknowledged_both (old.run ++ done) happenings),
          length-append (acknowledged (old.run ++ done)) (acknowledged happenings),
        );
      }

  replied : (old new : Meanwhile D) (request : RequestView) (reply : ReplyView) → IsAlong old
      → TellsCourier sectors honest history faults first edits old request reply new → IsAlong new
  replied old new request reply along (asks, inl is) =
      answered old new request reply is.0 is.1 along
      (readied old.replies request is.0 is.1 _ is.2) asks is.3.0 is.3.1
      (last_after_all sectors honest history (asked_service is.1) (inner_service new.replies) is.3.0 is.3.2) is.3.3
  replied old new request reply along (asks, inr (inl is)) =
      between old new is.3 (begin is.1 ∷ []) is.4 along (tt, tt) is.5 is.7 (ap (λ (c : Calls D). c.service.journal.last) is.12.same)
  replied old new request reply along (asks, inr (inr is)) =
      let more = last_after_all sectors honest history (inner_service old.replies) (inner_service new.replies) (map step is.2) is.14 in
      behind old new (map step is.2) along (steps_quiet is.2) is.9
      (omega (arith, more, ap length (none_acknowledged (map step is.2) (steps_quiet is.2))))

  -- ---- reads and preparations

  read : (old new : Meanwhile D) (ticket : Ticket) (offset count : ℕ) (outcome : Result (List ℕ) RestFault) → IsAlong old
      → TellsMeanwhileRead sectors honest history faults old ticket offset count outcome new → IsAlong new
  read old new ticket offset count outcome along is =
      nothing old new along is.1 (ap (λ (s : ServiceView D). s.journal.last) is.0.0.0.same)

  prepared : (old new : Meanwhile D) → IsAlong old → TellsPrepared sectors honest history faults old new → IsAlong new
  prepared old new along (inl is) = nothing old new along is.1 (ap (λ (r : MapReplies D). last_in r) is.0.same)
  prepared old new along (inr (inl is)) =
      between old new is.2 (begin is.0 ∷ []) is.3 along (tt, tt) is.4 is.6 (ap (λ (c : Calls D). c.service.journal.last) is.1.2.same)
  prepared old new along (inr (inr (inl is))) =
      let more = last_after sectors honest history (inner_service old.replies) (inner_service new.replies) (step is.0) is.1.3.takes in
      behind old new (step is.0 ∷ []) along (tt, tt) is.2 (omega (arith, more))
  prepared old new along (inr (inr (inr (inl is)))) =
      let more = last_after sectors honest history (inner_service old.replies) (inner_service new.replies) (cancel is.0) is.1.3.takes in
      behind old new (cancel is.0 ∷ []) along (tt, tt) is.2 (omega (arith, more))
  prepared old new along (inr (inr (inr (inr is)))) = nothing old new along is.1 (ap (λ (r : MapReplies D). last_in r) is.0.same)

  -- ---- all that is served

  abbrev Along : Meanwhile D → Unit {0} → Type 0
  Along s so = IsAlong s

  pub served_given : (old new : Meanwhile D) (served : List Event) → IsAlong old
      → Serves (TellsCourier sectors honest history faults first edits) (TellsMeanwhileRead sectors honest history faults)
      (TellsPreparedFor sectors honest history faults) old served new → IsAlong new
  served_given old new served along is =
      (events_along (TellsCourier sectors honest history faults first edits) (λ so request reply then. Unit {0})
      (TellsMeanwhileRead sectors honest history faults) (λ so ticket offset count outcome then. Unit {0})
      (TellsPreparedFor sectors honest history faults) (λ so connection request then. Unit {0}) Along
      (λ s so request reply next holds replies. (tt, tt, replied s next request reply holds replies))
      (λ s so ticket offset count outcome next holds reads. (tt, tt, read s next ticket offset count outcome holds reads))
      (λ s so connection request next holds prepares. (tt, tt, prepared s next holds prepares.0))
      served old new tt along is).2

-- from the beginning
pub port_given : {D : Type 0} (sectors : D → ℕ) (honest : D → Type 0) (history : D → History) (faults : D → ℕ) (first : ℕ) (edits : List EditData)
    (old new : PreparingReplies D) (served : List Event) (run : List Happening) (fixed : Option ℕ)
    → Serves (TellsCourier sectors honest history faults first edits) (TellsMeanwhileRead sectors honest history faults)
    (TellsPreparedFor sectors honest history faults) (meanwhile (without_draft old) [] None) served (meanwhile new run fixed)
    → AreGiven first edits (inner_service old).journal.last run
port_given sectors honest history faults first edits old new served run fixed is =
    let last = (inner_service old).journal.last in
    let begins : IsAlong sectors honest history faults first edits last (meanwhile (without_draft old) [] None) =
    record { given = tt; count = omega arith } in
    (served_given sectors honest history faults first edits last (meanwhile (without_draft old) [] None) (meanwhile new run fixed) served begins is).given
