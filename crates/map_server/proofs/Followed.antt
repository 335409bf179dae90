-- A relation between states that each reply, read and preparation preserves is preserved by all that a listener does.
use Rattle.std.proofs.Common.{ℕ, List, [], ◌∷◌, Option, None, Some, Ok, Err, Result, refl, sym, subst}
use Rattle.std.specs.declared.alloc.AllocError.{AllocError}
use Rattle.http_requests.specs.Requests.{RequestView, request_view}
use Rattle.http_serve.specs.Reply.{ReplyView}
use Rattle.http_serve.specs.declared.answers.Rest.{Rest}
use Rattle.http_serve.specs.declared.connection.Answer.{Answer}
use Rattle.http_serve.specs.declared.connection.Served.{Served}
use Rattle.http_serve.specs.declared.handlers.RestFault.{RestFault}
use Rattle.http_serve.specs.declared.handlers.Ticket.{Ticket}
use Rattle.http_listen.specs.Connections.{Stretch, Event, at_stretch, at_part, at_preparation, IsAnswered, CameTo, Happens, Serves}
use Rattle.map_replies.proofs.Along.{served_along, part_along}

-- States of S do what is done, states of T tell of it, and Along relates the two.
module _ {S T : Type 0} (replies : S → RequestView → ReplyView → S → Type 0) (tells : T → RequestView → ReplyView → T → Type 0)
    (reads : S → Ticket → (offset count : ℕ) → Result (List ℕ) RestFault → S → Type 0)
    (tells_read : T → Ticket → (offset count : ℕ) → Result (List ℕ) RestFault → T → Type 0)
    (prepares : S → (connection : ℕ) → RequestView → S → Type 0) (tells_prepared : T → (connection : ℕ) → RequestView → T → Type 0)
    (Along : S → T → Type 0)
    (replied : (old : S) (so : T) (request : RequestView) (reply : ReplyView) (new : S) → Along old so → replies old request reply new
    → (then : T) × tells so request reply then × Along new then)
    (read : (old : S) (so : T) (ticket : Ticket) (offset count : ℕ) (outcome : Result (List ℕ) RestFault) (new : S) → Along old so
    → reads old ticket offset count outcome new → (then : T) × tells_read so ticket offset count outcome then × Along new then)
    (prepared : (old : S) (so : T) (connection : ℕ) (request : RequestView) (new : S) → Along old so → prepares old connection request new
    → (then : T) × tells_prepared so connection request then × Along new then) where
  answered_along : (served : Served) (rest : Option Rest) (stretch : Stretch) (old new : S) (before : T) → Along old before
      → IsAnswered replies served rest old stretch new → (after : T) × IsAnswered tells served rest before stretch after × Along new after
  answered_along served None stretch old new before so is =
      served_along replies tells Along replied old stretch.left stretch.held served new stretch.leaves stretch.holds before so is
  answered_along served (Some rest) stretch old new before so is =
      let part = part_along replies tells Along replied old stretch.left stretch.held 0 new stretch.leaves stretch.holds before so is.2 in
      (part.0, (is.0, is.1, part.1), part.2)

  came_along : (result : Result Answer AllocError) (stretch : Stretch) (old new : S) (before : T) → Along old before
      → CameTo replies result old stretch new → (after : T) × CameTo tells result before stretch after × Along new after
  came_along (Ok answer) stretch old new before so is = answered_along answer.served answer.rest stretch old new before so is
  came_along (Err fault) stretch old new before so is = (before, (refl, is.1, is.2), subst (λ (s : S). Along s before) (sym is.0) so)

  event_along : (event : Event) (old new : S) (before : T) → Along old before → Happens replies reads prepares old event new
      → (after : T) × Happens tells tells_read tells_prepared before event after × Along new after
  event_along (at_stretch s) old new before so is = came_along s.result s old new before so is
  event_along (at_part ticket offset count outcome) old new before so is = read old before ticket offset count outcome new so is
  event_along (at_preparation connection asked) old new before so is =
      let told = prepared old before connection (request_view is.0) new so is.2 in
      (told.0, (is.0, is.1, told.1), told.2)

  pub events_along : (served : List Event) (old new : S) (before : T) → Along old before → Serves replies reads prepares old served new
      → (after : T) × Serves tells tells_read tells_prepared before served after × Along new after
  events_along [] old new before so is = (before, refl, subst (λ (s : S). Along s before) (sym is) so)
  events_along (event ∷ served) old new before so is =
      let one = event_along event old is.0 before so is.1 in
      let others = events_along served is.0 new one.0 one.2 is.2 in
      (others.0, (one.0, one.1, others.1), others.2)
