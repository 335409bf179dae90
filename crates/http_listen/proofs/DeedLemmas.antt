-- What was done for connections, as events of the handler.
use Rattle.std.proofs.Common.{ℕ, List, [], ◌∷◌, Result, Some, refl}
use Rattle.http_serve.specs.declared.handlers.RestFault.{RestFault}
use Rattle.http_serve.specs.declared.handlers.Ticket.{Ticket}
use Rattle.http_requests.specs.Requests.{RequestView}
use Rattle.http_serve.specs.Reply.{ReplyView}
use Rattle.http_listen.specs.Connections.{Event, at_stretch, at_part, at_preparation, Happens, Serves}
use Rattle.http_listen.specs.Conversations.{Act, answered, fetched, prepared, Deed, Does, Runs}
use Rattle.http_listen.specs.Deeds.{IsEventOf, AreEventsOf}
use Rattle.std.specs.Prelude.{false}

module _ {S : Type 0} (replies : S → RequestView → ReplyView → S → Type 0)
    (reads : S → Ticket → (offset count : ℕ) → Result (List ℕ) RestFault → S → Type 0) (ticket_of : S → Ticket)
    (prepares : S → (connection : ℕ) → RequestView → S → Type 0) where
  act_happens : (number : ℕ) (act : Act) (old new : S) → Does replies reads ticket_of prepares old number act new
      → (event : Event) × Happens replies reads prepares old event new × IsEventOf number act event
  act_happens number (answered bytes out result ticket) old new d = (
    at_stretch (record { first = false; result = result; left = Some bytes; held = Some []; leaves = d.0.0; holds = Some out }),
    d.0.1,
    (refl, refl, refl, refl, d.2),
  )
  act_happens number (fetched ticket offset count outcome) old new d = (at_part ticket offset count outcome, d, (refl, refl, refl, refl))
  act_happens number (prepared bytes) old new d = (at_preparation number bytes, d, (refl, refl))

  -- All that was done is events.
  pub deeds_serve : (deeds : List Deed) (old new : S) → Runs replies reads ticket_of prepares old deeds new
      → (served : List Event) × Serves replies reads prepares old served new × AreEventsOf deeds served
  deeds_serve [] old new r = ([], r, tt)
  deeds_serve (deed ∷ deeds) old new r =
      let one = act_happens deed.number deed.act old r.0 r.1 in
      let others = deeds_serve deeds r.0 new r.2 in
      (one.0 ∷ others.0, (r.0, one.1, others.1), (one.2, others.2))
