-- The conversation of one connection: what is done for it, one act after the other, and what its stream told.
use Rattle.std.specs.Prelude.{◌≡◌, ◌≢◌, ◌≤◌, ◌+◌, ◌-◌, ◌⊎◌, ℕ, Bool, nat_eq, cond, List, [], ◌∷◌, ◌++◌, length, Option, None, Some, is_some}
use Rattle.std.specs.Prelude.{Result, Ok, Err, MatchOption, ⊤, true, false}
use Rattle.httparse.specs.declared.spans.HeaderSpan.{HeaderSpan}
use Rattle.std.specs.declared.alloc.AllocError.{AllocError}
use Rattle.http_serve.specs.declared.connection.Answer.{Answer}
use Rattle.http_serve.specs.declared.connection.Served.{Served}
use Rattle.http_serve.specs.declared.handlers.RestFault.{RestFault}
use Rattle.http_serve.specs.declared.handlers.Ticket.{Ticket}
use Rattle.http_requests.specs.Requests.{RequestView}
use Rattle.http_serve.specs.Reply.{ReplyView}
use Rattle.http_listen.specs.declared.ends.EndFault.{EndFault}
use Rattle.http_listen.specs.declared.peers.Peer.{Peer}
use Rattle.http_listen.specs.declared.rests.Unsent.{Unsent}
use Rattle.http_listen.specs.declared.turns.Next.{Next}
use Rattle.http_listen.specs.declared.turns.Next.TheVariants.{Asks, Reads, Rests, Closes}
use Rattle.http_requests.specs.Inputs.{IsAsked}
use Rattle.http_serve.specs.Connections.{PreparesNext}
use Rattle.http_listen.specs.Asked.{IsDue, IsOneOrNone}
use Rattle.http_listen.specs.Connections.{CameTo}
use Rattle.http_listen.specs.Courses.{Course, GoesOnAfter, MaySettle, Settles, counted, course_of, fresh, settled}
use Rattle.http_listen.specs.NoMemory.{no_memory}
use Rattle.http_listen.specs.Rests.{rest_after, once_sent, cut_by}
use Rattle.http_listen.specs.Talks.{Told, Grows, HasEnded, IsAt, Moves, given_by}

-- what is done for a connection
pub data Act : Type 0 where
  -- these bytes were answered by these replies, and came to this; the last reply's content has this ticket
  answered : (asked replies : List ℕ) → Result Answer AllocError → Ticket → Act
  -- this many bytes of a content that a reply left were read by its ticket, from an offset on, or couldn't be
  fetched : Ticket → (offset count : ℕ) → Result (List ℕ) RestFault → Act
  -- a step of the preparation of the reply to these bytes was made, which are to be answered next
  prepared : (asked : List ℕ) → Act

-- the bytes that were read of a content, none if they couldn't be
abbrev pub fetched_bytes : Result (List ℕ) RestFault → List ℕ
fetched_bytes (Ok bytes) = bytes
fetched_bytes (Err fault) = []

-- the bytes that were answered
abbrev pub asked : List Act → List ℕ
asked [] = []
asked (answered bytes replies result ticket ∷ acts) = bytes ++ asked acts
asked (fetched ticket offset count outcome ∷ acts) = asked acts
asked (prepared bytes ∷ acts) = asked acts

-- the replies to them, with what was read of their contents later
abbrev pub replied : List Act → List ℕ
replied [] = []
replied (answered bytes replies result ticket ∷ acts) = replies ++ replied acts
replied (fetched ticket offset count outcome ∷ acts) = fetched_bytes outcome ++ replied acts
replied (prepared bytes ∷ acts) = replied acts

-- after an act a connection ends so: with the word for why a part couldn't be read, if it couldn't
abbrev pub IsEndedBy : Act → Option (Result Served EndFault) → Type 0
IsEndedBy (answered bytes replies result ticket) ending = ⊤
IsEndedBy (fetched ticket offset count (Ok bytes)) ending = ⊤
IsEndedBy (fetched ticket offset count (Err cause)) ending = ending ≡ Some (Err (cut_by cause))
IsEndedBy (prepared bytes) ending = ⊤

-- What is read of a content leaves this course. If it couldn't be read, the connection ends.
abbrev pub IsFetched : Course → Unsent → Result (List ℕ) RestFault → Course → Type 0
IsFetched before unsent (Err fault) after = after ≡ record before { left = None; outcome = Some (Err (cut_by fault)) }
IsFetched before unsent (Ok bytes) after = (after ≡ record before { left = after.left })
    × MatchOption after.left (unsent.end ≤ unsent.at + length bytes) (λ next. next ≡ record unsent { at = unsent.at + length bytes })

-- An act is in its place, by the course before it and after it: while something is left of the last reply's content, and after a reply with which
-- the connection ends, nothing is answered or prepared; what is read is the next bytes of that content, no more than are left, by its reply's ticket.
abbrev pub IsNext : Course → Act → Course → Type 0
IsNext before (answered bytes replies result ticket) after = MaySettle before
    × (after ≡ record { left = rest_after ticket result; outcome = Some (once_sent result); requests = counted before.requests before.outcome })
IsNext before (fetched ticket offset count outcome) after =
    (unsent : Unsent) × (before.left ≡ Some unsent) × (ticket ≡ unsent.ticket) × (offset ≡ unsent.at) × (count ≤ unsent.end - unsent.at)
    × IsFetched before unsent outcome after
IsNext before (prepared bytes) after = MaySettle before × (after ≡ settled before)

-- so is each of these
abbrev pub Follows : Course → List Act → Course → Type 0
Follows before [] after = Settles before after
Follows before (act ∷ acts) after = (between : Course) × IsNext before act between × Follows between acts after

-- The bytes of each of these that are answered may be: those before them are this many of the stream's.
abbrev pub AreDue : (count : ℕ) → Option Told → List Act → Type 0
AreDue count told [] = ⊤
AreDue count told (answered bytes replies result ticket ∷ acts) = IsDue (count + length bytes) told bytes × AreDue (count + length bytes) told acts
AreDue count told (fetched ticket offset n outcome ∷ acts) = AreDue count told acts
AreDue count told (prepared bytes ∷ acts) = AreDue count told acts

-- A connection's stream told first as it was opened, and last as it was closed. It gave the bytes that were answered, in order, and then the rest;
-- it took the replies, in order, and after them perhaps the one for want of memory, but for those that wait: their last bytes. What is no request
-- was answered only if nothing that may follow makes it one, or all of it was there at the stream's end.
pub record Conversation (first : Option Told) (acts : List Act) (last : Option Told) : Type 0 where
  pub rest : List ℕ
  pub refusal : List ℕ
  pub waits : List ℕ
  pub moved : Moves first [] (asked acts ++ rest) (replied acts ++ refusal) last waits
  pub refused : (refusal ≡ []) ⊎ (refusal ≡ no_memory)
  pub course : Course
  pub follows : Follows fresh acts course
  pub due : AreDue (given_by first) last acts

-- replies
module _ {S : Type 0} (replies : S → RequestView → ReplyView → S → Type 0) where
  -- bytes were answered: what a writer that held nothing holds then is the replies
  abbrev pub Answers : S → (bytes replies : List ℕ) → Result Answer AllocError → S → Type 0
  Answers old bytes out result new = (leaves : Option (List ℕ)) × CameTo replies result old
      (record { first = false; result = result; left = Some bytes; held = Some []; leaves = leaves; holds = Some out }) new

-- the same handler, with its reads, tickets and preparations
module _ {S : Type 0} (replies : S → RequestView → ReplyView → S → Type 0)
    (reads : S → Ticket → (offset count : ℕ) → Result (List ℕ) RestFault → S → Type 0) (ticket_of : S → Ticket)
    (prepares : S → (connection : ℕ) → RequestView → S → Type 0) where
  -- An act of the connection of this number leads from a state to the next. What is answered is one request, or bytes that begin with none.
  abbrev pub Does : S → (number : ℕ) → Act → S → Type 0
  Does old number (answered bytes out result ticket) new = Answers replies old bytes out result new × (ticket ≡ ticket_of new) × IsOneOrNone bytes
  Does old number (fetched ticket offset count outcome) new = reads old ticket offset count outcome new
  Does old number (prepared bytes) new = PreparesNext prepares number bytes old new

-- what streams told
module _ {S : Type 0} (told : S → Option Told) where
  -- what a connection takes for the end of its input was told
  abbrev pub KnowsEnd : Peer S → Type 0
  KnowsEnd peer = peer.state.ended ≡ true → HasEnded (told peer.stream)

  -- Acts lead from a connection to what it is then. Only if it isn't whole, bytes of its input or its output are lost.
  pub record Steps (old : Peer S) (acts : List Act) (whole : Type 0) (new : Peer S) : Type 0 where
    pub number : new.state.number ≡ old.state.number
    pub drops : is_some new.state.drops ≡ is_some old.state.drops
    pub given : List ℕ
    pub lost : List ℕ
    pub cut : List ℕ
    pub input : old.connection.input ++ given ≡ asked acts ++ (new.connection.input ++ lost)
    pub moved : Moves (told old.stream) old.connection.output given (replied acts) (told new.stream) (new.connection.output ++ cut)
    pub course : Course
    pub follows : Follows (course_of old) acts course
    pub lossless : whole → (lost ≡ []) × (cut ≡ []) × (course_of new ≡ course)
    -- if no rest of a content is left, nothing of the output is lost
    pub cuts : new.state.unsent ≡ None → cut ≡ []
    pub knows : KnowsEnd old → KnowsEnd new
    pub due : KnowsEnd old → (count : ℕ) → IsAt count (told old.stream) old.connection.input → AreDue count (told new.stream) acts

  -- A connection in the middle of its conversation: all that was read and isn't answered is its input, and all that is to be sent its output.
  pub record IsTalking (first : Option Told) (acts : List Act) (peer : Peer S) : Type 0 where
    pub moved : Moves first [] (asked acts ++ peer.connection.input) (replied acts) (told peer.stream) peer.connection.output
    pub follows : Follows fresh acts (course_of peer)
    pub knows : KnowsEnd peer
    pub due : AreDue (given_by first) (told peer.stream) acts

  -- A connection in its conversation, open or ended. Of what waited to be sent, the last bytes are lost. While it is open, only that is lost of which
  -- a rest is left, and there was enough memory.
  pub record IsHeld (first : Option Told) (acts : List Act) (peer : Peer S) : Type 0 where
    pub talk : Conversation first acts (told peer.stream)
    pub cut : List ℕ
    pub waits : talk.waits ≡ peer.connection.output ++ cut
    pub opened : peer.state.drops ≡ None → (talk.refusal ≡ []) × (peer.state.unsent ≡ None → cut ≡ [])

  -- A connection is ended: bytes of its output are lost, and if nothing was to be sent, the reply for want of memory may be.
  pub record Ends (old new : Peer S) : Type 0 where
    pub cut : List ℕ
    pub refusal : List ℕ
    pub moved : Moves (told old.stream) old.connection.output [] refusal (told new.stream) (new.connection.output ++ cut)
    pub refused : (refusal ≡ []) ⊎ ((refusal ≡ no_memory) × (old.state.unsent ≡ None))

  -- It was ended: its conversation is over, and if it is kept, in its conversation still.
  pub record IsEnded (old : Peer S) (is_kept : Type 0) (new : Peer S) : Type 0 where
    pub talk : (first : Option Told) (acts : List Act) → IsHeld first acts old → Conversation first acts (told new.stream)
    pub held : is_kept → (first : Option Told) (acts : List Act) → IsHeld first acts old → IsHeld first acts new

-- what may follow a search of the input, which has ended or not, and of which the header fields are at these spans
abbrev pub FollowsSearch : List ℕ → Bool → List HeaderSpan → Next → Type 0
FollowsSearch input ended fields (Asks asked) = IsAsked input ended fields asked
FollowsSearch input ended fields (Reads unsent) = ⊥
FollowsSearch input ended fields (Rests ending) = ⊤
FollowsSearch input ended fields Closes = ⊥

pub record IsSearched (input : List ℕ) (ended : Bool) (fields : List HeaderSpan) (result : Next) : Type 0 where
  pub is : FollowsSearch input ended fields result

-- the connection goes on
abbrev pub GoesOn : Next → Type 0
GoesOn (Asks asked) = ⊤
GoesOn (Reads unsent) = ⊤
GoesOn (Rests None) = ⊤
GoesOn (Rests (Some outcome)) = ⊥
GoesOn Closes = ⊥

-- what streams told
module _ {S : Type 0} (told : S → Option Told) where
  -- Bytes were read and are the end of the input; if it ends now, some may be lost. The input has ended only if the stream told that.
  pub record IsRead (old : Peer S) (result : Next) (new : Peer S) : Type 0 where
    pub given : List ℕ
    pub lost : List ℕ
    pub grows : Grows (told old.stream) given [] (told new.stream)
    pub input : new.connection.input ++ lost ≡ old.connection.input ++ given
    pub output : new.connection.output ≡ old.connection.output
    pub number : new.state.number ≡ old.state.number
    pub drops : is_some new.state.drops ≡ is_some old.state.drops
    pub course : course_of new ≡ course_of old
    pub lossless : GoesOn result → lost ≡ []
    pub ends : new.state.ended ≡ true → (old.state.ended ≡ true) ⊎ HasEnded (told new.stream)

  -- What a turn did, by what follows it. Nothing waits to be sent where bytes are to be answered or a content read.
  abbrev pub Turned : Peer S → List HeaderSpan → Next → Peer S → Type 0
  Turned old fields (Asks asked) new = Steps told old [] ⊤ new × (new.connection.output ≡ []) × (new.state.unsent ≡ None) × (new.state.drops ≡ None)
      × (new.state.outcome ≡ None) × IsAsked new.connection.input new.state.ended fields asked
  Turned old fields (Reads unsent) new = Steps told old [] ⊤ new × (new.connection.output ≡ []) × (new.state.unsent ≡ Some unsent) × (new.state.drops ≡ None)
  Turned old fields (Rests ending) new = Steps told old [] ((ending ≡ None) × (old.state.drops ≡ None)) new
  Turned old fields Closes new = Steps told old [] ⊥ new

-- A connection whose stream and output may have moved is else the same, but for its course.
pub record Beside {S : Type 0} (old new : Peer S) : Type 0 where
  pub input : new.connection.input ≡ old.connection.input
  pub number : new.state.number ≡ old.state.number
  pub drops : new.state.drops ≡ old.state.drops
  pub ended : new.state.ended ≡ old.state.ended

-- a connection whose stream, bytes and rest of a content are the same
pub record Keeps {S : Type 0} (old new : Peer S) : Type 0 where
  pub stream : new.stream ≡ old.stream
  pub input : new.connection.input ≡ old.connection.input
  pub output : new.connection.output ≡ old.connection.output
  pub number : new.state.number ≡ old.state.number
  pub drops : new.state.drops ≡ old.state.drops
  pub unsent : new.state.unsent ≡ old.state.unsent
  pub ended : new.state.ended ≡ old.state.ended

-- a connection whose stream, bytes and course are the same
pub record Stands {S : Type 0} (old new : Peer S) : Type 0 where
  pub stream : new.stream ≡ old.stream
  pub input : new.connection.input ≡ old.connection.input
  pub output : new.connection.output ≡ old.connection.output
  pub number : new.state.number ≡ old.state.number
  pub drops : new.state.drops ≡ old.state.drops
  pub ended : new.state.ended ≡ old.state.ended
  pub course : course_of new ≡ course_of old

-- ---- all connections

-- what is done for one of the connections, by its number
pub record Deed : Type 0 where
  pub number : ℕ
  pub act : Act

-- the acts of one of them
abbrev pub acts_of : ℕ → List Deed → List Act
acts_of number [] = []
acts_of number (deed ∷ deeds) = cond (nat_eq deed.number number) (deed.act ∷ acts_of number deeds) (acts_of number deeds)

-- these acts, done for one of them
abbrev pub deeds_of : ℕ → List Act → List Deed
deeds_of number [] = []
deeds_of number (act ∷ acts) = record { number = number; act = act } ∷ deeds_of number acts

-- a handler
module _ {S : Type 0} (replies : S → RequestView → ReplyView → S → Type 0)
    (reads : S → Ticket → (offset count : ℕ) → Result (List ℕ) RestFault → S → Type 0) (ticket_of : S → Ticket)
    (prepares : S → (connection : ℕ) → RequestView → S → Type 0) where
  -- All that was done, in this order, leads from a state to the next.
  abbrev pub Runs : S → List Deed → S → Type 0
  Runs old [] new = new ≡ old
  Runs old (deed ∷ deeds) new = (middle : S) × Does replies reads ticket_of prepares old deed.number deed.act middle × Runs middle deeds new

-- no two connections have one number
abbrev pub AreApart : {S : Type 0} → (ℕ → Option (Peer S)) → Type 0
AreApart {S} places = (key other : ℕ) (peer neighbour : Peer S) → places key ≡ Some peer → places other ≡ Some neighbour
    → peer.state.number ≡ neighbour.state.number → key ≡ other

-- the connection at a key is this one, and the others are the same
pub record Puts {S : Type 0} (old : ℕ → Option (Peer S)) (key : ℕ) (peer : Peer S) (new : ℕ → Option (Peer S)) : Type 0 where
  pub here : new key ≡ Some peer
  pub others : (other : ℕ) → other ≢ key → new other ≡ old other
