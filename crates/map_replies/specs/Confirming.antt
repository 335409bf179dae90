-- Replies of a map whose edits are to be on two machines: the reply to an edit waits until a standby has asked for what comes after it.
use Rattle.std.specs.Prelude.{◌≡◌, ◌⊎◌, ◌≤◌, ◌<◌, ◌+◌, ◌-◌, ◌++◌, ◌&&◌, ℕ, Bool, true, false, max, ltb, cond, List, length, take, drop, codes, decimal}
use Rattle.std.specs.Prelude.{Option, Some, None, Result, Ok, Err}
use Rattle.http_requests.specs.Requests.{RequestView}
use Rattle.http_serve.specs.Reply.{ReplyView, IsReply, InParts, HasShortWords, head_view}
use Rattle.http_serve.specs.declared.replies.Reply.{Reply}
use Rattle.http_serve.specs.declared.handlers.Hold.{Hold}
use Rattle.http_serve.specs.declared.handlers.RestFault.{RestFault}
use Rattle.http_serve.specs.declared.handlers.Ticket.{Ticket}
use Rattle.sector_disk.specs.Disk.{History}
use Rattle.tile_routes.specs.Methods.{method_on}
use Rattle.tile_routes.specs.Paths.{Asked, asked_action, asked_edits, asked_feature, asked_numbered, asked_numbered_feature, asked_view}
use Rattle.tile_routes.specs.declared.fault.RouteFault.{RouteFault}
use Rattle.tile_routes.specs.declared.method.Method.{Method}
use Rattle.tile_routes.specs.declared.method.Method.TheVariants.{Get, Post, Put, Delete}
use Rattle.tile_routes.specs.declared.target.Action.{Action}
use Rattle.tile_routes.specs.declared.target.Action.TheVariants.{Edits, CheckedEdits}
use Rattle.tile_routes.specs.declared.target.View.TheVariants.{Status}
use Rattle.tile_service.specs.Machine.{Happening}
use Rattle.map_replies.specs.declared.confirming.ConfirmedReplies.{ConfirmedReplies}
use Rattle.map_replies.specs.declared.preparing.PreparingReplies.{PreparingReplies}
use Rattle.map_replies.specs.declared.standbys.Standbys.{Standbys}
use Rattle.map_replies.specs.declared.service.MapReplies.{MapReplies}
use Rattle.map_replies.specs.Meanings.{asked_for}
use Rattle.map_replies.specs.Preparing.{PreparingReplied, PreparingSends, PreparingFails, PreparingReads, PreparesFor}
use Rattle.map_replies.specs.Preparing.{Meanwhile, meanwhile, inner_service, inner_size, inner_ticket, without_draft}
use Rattle.map_replies.specs.Preparing.{TellsMeanwhile, TellsMeanwhileRead, TellsPreparedFor}
use Rattle.map_replies.specs.State.{access_of}
use Rattle.map_replies.specs.Waits.{Contains}
use Rattle.map_replies.specs.Words.{unheard_reply}

-- ---- what a request asks for

-- a method that a path allows is PUT or DELETE
abbrev pub puts : Result Method RouteFault → Bool
puts (Ok Put) = true
puts (Ok Delete) = true
puts method = false

-- it is POST
abbrev pub posts : Result Method RouteFault → Bool
posts (Ok Post) = true
posts method = false

-- an action makes an edit
abbrev pub is_edit : Action → Bool
is_edit Edits = true
is_edit CheckedEdits = true
is_edit action = false

-- it asks for an edit, by a method that its path allows
abbrev pub asks_to_edit : Asked → Result Method RouteFault → Bool
asks_to_edit (asked_feature id) method = puts method
asks_to_edit (asked_numbered number) method = posts method
asks_to_edit (asked_numbered_feature id number) method = puts method
asks_to_edit (asked_action action) method = is_edit action && posts method
asks_to_edit asked method = false

-- the same of a request to these replies
abbrev pub is_to_edit : {D : Type 0} → MapReplies D → RequestView → Bool
is_to_edit replies request = asks_to_edit (asked_for (access_of replies) request) (method_on request.method (asked_for (access_of replies) request))

-- the word in the query of a standby's request
unfoldable pub standby_mark : List ℕ
standby_mark = codes "standby"

-- By this request a standby says that it has all edits up to this one: it gets those after it.
pub record IsStandbyAsk {D : Type 0} (replies : MapReplies D) (request : RequestView) (number : ℕ) : Type 0 where
  pub asked : asked_for (access_of replies) request ≡ asked_edits (number + 1)
  pub method : method_on request.method (asked_for (access_of replies) request) ≡ Ok Get
  pub says : Contains request.query standby_mark

-- ---- standbys

-- the edit that an answer made, by the last edits before and after it, or 0
abbrev pub made_by : (before after : ℕ) → ℕ
made_by before after = cond (ltb before after) after 0

-- what the reply to the last answer waits for: its edit, unless a standby has that
abbrev pub held_of : Standbys → Option Hold
held_of s = cond (ltb s.confirmed s.made) (Some (record { least = s.made; longest = s.longest })) None

-- the last edit of the map
abbrev pub last_of : {D : Type 0} → ConfirmedReplies D → ℕ
last_of s = (inner_service s.inner).journal.last

-- What is confirmed rises only by a standby's request, to the edit up to which it has all, if there is such an edit.
abbrev pub Hears : {D : Type 0} → ConfirmedReplies D → RequestView → ConfirmedReplies D → Type 0
Hears old request new = (new.standbys.confirmed ≡ old.standbys.confirmed)
    ⊎ ((number : ℕ) × IsStandbyAsk old.inner.replies request number × (number ≤ last_of old)
    × (new.standbys.confirmed ≡ max old.standbys.confirmed number))

-- An answer confirms nothing, and its reply waits for the edit that it made.
pub record KeepsHeld {D : Type 0} (old new : ConfirmedReplies D) : Type 0 where
  pub confirmed : new.standbys.confirmed ≡ old.standbys.confirmed
  pub made : new.standbys.made ≡ made_by (last_of old) (last_of new)

-- No edit is made while no standby is near.
abbrev pub MayAnswer : {D : Type 0} → ConfirmedReplies D → RequestView → Type 0
MayAnswer old request = old.standbys.away ≡ true → is_to_edit old.inner.replies request ≡ false

-- It is refused then, and nothing changes.
pub record IsUnheard {D : Type 0} (old : ConfirmedReplies D) (request : RequestView) (reply : ReplyView) (new : ConfirmedReplies D) : Type 0 where
  pub away : old.standbys.away ≡ true
  pub edits : is_to_edit old.inner.replies request ≡ true
  pub is : reply ≡ unheard_reply
  pub same : new.inner ≡ old.inner
  pub confirmed : new.standbys.confirmed ≡ old.standbys.confirmed
  pub made : new.standbys.made ≡ 0

-- ---- the member of the status

-- a reply with this text in place of the last byte of its content
abbrev pub with_end : List ℕ → ReplyView → ReplyView
with_end text reply = record reply { content = take (length reply.content - 1) reply.content ++ text }

-- the seconds since a standby was heard of, or `null`
abbrev pub heard_text : Option ℕ → List ℕ
heard_text (Some seconds) = decimal seconds
heard_text None = codes "null"

-- the member of a status, and what ends it
unfoldable pub standby_end : (confirmed : ℕ) → (heard : Option ℕ) → List ℕ
standby_end confirmed heard =
    codes ",\"standby\":{" ++ codes "\"confirmed\":" ++ decimal confirmed ++ codes ",\"heard\":" ++ heard_text heard ++ codes "}}"

-- the reply is the other one, or has this text in place of the last byte of its content, which is whole
pub record HasEnd (confirmed : ℕ) (heard : Option ℕ) (old new : Reply) : Type 0 where
  pub says : (view : ReplyView) → IsReply old view → (shown : ReplyView) × IsReply new shown
      × (((shown ≡ view) × (new.content ≡ old.content)) ⊎ ((shown ≡ with_end (standby_end confirmed heard) view) × InParts new.content ⊥))
  pub words : HasShortWords (head_view old) → HasShortWords (head_view new)

-- what is replied in place of a reply: the same, and in a status what is known of standbys
abbrev pub SaysMore : {D : Type 0} → ConfirmedReplies D → RequestView → (view reply : ReplyView) → ConfirmedReplies D → Type 0
SaysMore old request view reply new = (reply ≡ view)
    ⊎ ((asked_for (access_of old.inner.replies) request ≡ asked_view Status) × (heard : Option ℕ)
    × (reply ≡ with_end (standby_end new.standbys.confirmed heard) view))

-- ---- a handler

-- over a disk with these sectors, this honesty, this history and this count of faults
module _ {D : Type 0} (sectors : D → ℕ) (honest : D → Type 0) (history : D → History) (faults : D → ℕ) where
  -- one reply to one request
  abbrev pub ConfirmedReplied : ConfirmedReplies D → RequestView → ReplyView → ConfirmedReplies D → Type 0
  ConfirmedReplied old request reply new = IsUnheard old request reply new
      ⊎ ((view : ReplyView) × MayAnswer old request × PreparingReplied sectors honest history faults old.inner request view new.inner
      × KeepsHeld old new × SaysMore old request view reply new)

  -- the same for a reply whose content is being read in parts
  abbrev pub ConfirmedSends : ConfirmedReplies D → RequestView → ReplyView → ConfirmedReplies D → Type 0
  ConfirmedSends old request reply new =
      MayAnswer old request × PreparingSends sectors honest history faults old.inner request reply new.inner × KeepsHeld old new

  -- the same for a reply whose content couldn't be read to its end
  abbrev pub ConfirmedFails : ConfirmedReplies D → RequestView → ReplyView → ConfirmedReplies D → Type 0
  ConfirmedFails old request reply new =
      MayAnswer old request × PreparingFails sectors honest history faults old.inner request reply new.inner
      × (new.standbys.confirmed ≡ old.standbys.confirmed)

  -- bytes of a ticket's content were read, or couldn't be
  abbrev pub ConfirmedReads : ConfirmedReplies D → Ticket → (offset count : ℕ) → Result (List ℕ) RestFault → ConfirmedReplies D → Type 0
  ConfirmedReads old ticket offset count outcome new =
      PreparingReads sectors honest history faults old.inner ticket offset count outcome new.inner × (new.standbys ≡ old.standbys)

  -- a step of the preparation of the reply to a request of a connection: by it a standby may say what it has
  abbrev pub ConfirmedPrepares : ConfirmedReplies D → (connection : ℕ) → RequestView → ConfirmedReplies D → Type 0
  ConfirmedPrepares old connection request new =
      PreparesFor sectors honest history faults old.inner connection request new.inner × Hears old request new

abbrev pub confirmed_size : {D : Type 0} → ConfirmedReplies D → ℕ
confirmed_size s = inner_size s.inner

abbrev pub confirmed_ticket : {D : Type 0} → ConfirmedReplies D → Ticket
confirmed_ticket s = inner_ticket s.inner

-- ---- a listener

-- The handler, what has happened to its service so far, and how many of these happenings came before the map of the publication that is prepared was
-- fixed, if there is one.
pub record Confirming (D : Type 0) : Type 0 where
  pub replies : ConfirmedReplies D
  pub run : List Happening
  pub fixed : Option ℕ

-- the same without what is known of standbys
abbrev pub inner_of : {D : Type 0} → Confirming D → Meanwhile D
inner_of s = meanwhile s.replies.inner s.run s.fixed

abbrev pub confirming : {D : Type 0} → ConfirmedReplies D → List Happening → Option ℕ → Confirming D
confirming replies run fixed = record { replies = replies; run = run; fixed = fixed }

-- the same replies, which prepare no publication
abbrev pub confirmed_without_draft : {D : Type 0} → ConfirmedReplies D → ConfirmedReplies D
confirmed_without_draft s = record s { inner = without_draft s.inner }

module _ {D : Type 0} (sectors : D → ℕ) (honest : D → Type 0) (history : D → History) (faults : D → ℕ) where
  -- One reply to one request: the refusal of an edit, of which nothing happens, or what the map replies. The reply to an edit waits then.
  abbrev pub TellsConfirmed : Confirming D → RequestView → ReplyView → Confirming D → Type 0
  TellsConfirmed old request reply new =
      (IsUnheard old.replies request reply new.replies × (new.run ≡ old.run) × (new.fixed ≡ old.fixed))
      ⊎ ((view : ReplyView) × MayAnswer old.replies request
      × TellsMeanwhile sectors honest history faults (inner_of old) request view (inner_of new)
      × KeepsHeld old.replies new.replies × SaysMore old.replies request view reply new.replies)

  abbrev pub TellsConfirmedRead : Confirming D → Ticket → (offset count : ℕ) → Result (List ℕ) RestFault → Confirming D → Type 0
  TellsConfirmedRead old ticket offset count outcome new =
      TellsMeanwhileRead sectors honest history faults (inner_of old) ticket offset count outcome (inner_of new)
      × (new.replies.standbys ≡ old.replies.standbys)

  -- What is confirmed rises only by what a standby asks.
  abbrev pub TellsConfirmedFor : Confirming D → (connection : ℕ) → RequestView → Confirming D → Type 0
  TellsConfirmedFor old connection request new =
      TellsPreparedFor sectors honest history faults (inner_of old) connection request (inner_of new) × Hears old.replies request new.replies
