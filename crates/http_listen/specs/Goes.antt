-- The connections by their keys, as turns are given to them, and one that is taken out for its turn.
use Rattle.std.specs.Prelude.{◌≡◌, ◌≢◌, ◌⊎◌, ◌<◌, ◌≤◌, ℕ, List, [], ◌∷◌, ◌++◌, Option, None, Some, ⊤}
use Rattle.http_listen.specs.declared.peers.Peer.{Peer}
use Rattle.http_listen.specs.declared.pool.Found.{Found}
use Rattle.http_listen.specs.declared.pool.Found.TheVariants.{New, Asks, Reads, Nothing, Over}
use Rattle.http_listen.specs.Conversations.{Act, Deed, acts_of, deeds_of, AreApart, Conversation, IsHeld, IsTalking}
use Rattle.http_listen.specs.Marks.{Mark, at_opening, at_closing, marks_of, Adds}
use Rattle.http_listen.specs.Talks.{Told}

-- the connection that is taken out, by what is to be done next
abbrev pub hand_of : {S : Type 0} → Found S → Option (Peer S)
hand_of (New stream) = None
hand_of (Asks peer end) = Some peer.value
hand_of (Reads peer unsent) = Some peer.value
hand_of Nothing = None
hand_of Over = None

abbrev pub hand_in : {S : Type 0} → Option (Found S) → Option (Peer S)
hand_in None = None
hand_in (Some found) = hand_of found

-- A connection of this number is at a key, or taken out.
pub record IsThere {S : Type 0} (number : ℕ) (places : ℕ → Option (Peer S)) (hand : Option (Peer S)) : Type 0 where
  pub peer : Peer S
  pub there : ((key : ℕ) × (places key ≡ Some peer)) ⊎ (hand ≡ Some peer)
  pub number_is : peer.state.number ≡ number

-- what streams told
module _ {S : Type 0} (told : S → Option Told) where
  -- A connection was opened and not closed, and is in its conversation; if it is whole, in the middle of it.
  pub record Holds (begun : ℕ) (deeds : List Deed) (marks : List (Mark S)) (whole : Type 0) (peer : Peer S) : Type 0 where
    pub first : S
    pub within : (0 < peer.state.number) × (peer.state.number ≤ begun)
    pub marked : marks_of peer.state.number marks ≡ at_opening peer.state.number first ∷ []
    pub held : IsHeld told (told first) (acts_of peer.state.number deeds) peer
    pub talks : whole → IsTalking told (told first) (acts_of peer.state.number deeds) peer

  -- The connection of this number was opened once and then closed once, and had its conversation between the two.
  pub record IsOver (deeds : List Deed) (marks : List (Mark S)) (number : ℕ) : Type 0 where
    pub first : S
    pub last : S
    pub marked : marks_of number marks ≡ at_opening number first ∷ at_closing number last ∷ []
    pub talk : Conversation (told first) (acts_of number deeds) (told last)

  -- Of so many connections each is open, taken out or over. Those that haven't ended are in the middle of their conversations. No two have one number.
  pub record Ledger (begun : ℕ) (deeds : List Deed) (marks : List (Mark S)) (places : ℕ → Option (Peer S)) (hand : Option (Peer S)) (whole : Type 0)
      : Type 0 where
    pub peers : (key : ℕ) (peer : Peer S) → places key ≡ Some peer → Holds begun deeds marks (peer.state.drops ≡ None) peer
    pub taken : (peer : Peer S) → hand ≡ Some peer → Holds begun deeds marks whole peer
    pub apart : AreApart places
    pub alone : (key : ℕ) (peer other : Peer S) → places key ≡ Some peer → hand ≡ Some other → peer.state.number ≢ other.state.number
    pub all : (number : ℕ) → 0 < number → number ≤ begun → IsThere number places hand ⊎ IsOver deeds marks number
    pub none : (number : ℕ) → (number ≡ 0) ⊎ (begun < number) → (acts_of number deeds ≡ []) × (marks_of number marks ≡ [])

  -- Turns without an act: what was told of connections goes on with this, and whatever was done before, their conversations go on.
  pub record Passes (before : Option (List (Mark S))) (old : ℕ → Option (Peer S)) (hand : Option (Peer S)) (whole : Type 0)
      (after : Option (List (Mark S))) (new : ℕ → Option (Peer S)) (then : Option (Peer S)) (rests : Type 0) : Type 0 where
    pub more : List (Mark S)
    pub adds : Adds before more after
    pub goes : (begun : ℕ) (deeds : List Deed) (marks : List (Mark S)) → Ledger begun deeds marks old hand whole
        → Ledger begun deeds (marks ++ more) new then rests

  -- turns, and no connection is taken out before or then
  abbrev pub Goes : (before : Option (List (Mark S))) (old : ℕ → Option (Peer S)) (after : Option (List (Mark S))) (new : ℕ → Option (Peer S)) → Type 0
  Goes before old after new = Passes before old None ⊤ after new None ⊤

  -- Acts of a connection that was taken out. Then it is at a key, or over.
  pub record Acts (before : Option (List (Mark S))) (old : ℕ → Option (Peer S)) (peer : Peer S) (acts : List Act)
      (after : Option (List (Mark S))) (new : ℕ → Option (Peer S)) : Type 0 where
    pub more : List (Mark S)
    pub adds : Adds before more after
    pub goes : (begun : ℕ) (deeds : List Deed) (marks : List (Mark S)) → Ledger begun deeds marks old (Some peer) ⊤
        → Ledger begun (deeds ++ deeds_of peer.state.number acts) (marks ++ more) new None ⊤

  -- A connection is closed with this stream, after its conversation.
  pub record Closes (before : Option (List (Mark S))) (peer : Peer S) (after : Option (List (Mark S))) : Type 0 where
    pub last : S
    pub adds : Adds before (at_closing peer.state.number last ∷ []) after
    pub talk : (first : Option Told) (acts : List Act) → IsHeld told first acts peer → Conversation first acts (told last)

  -- Each connection up to this number was opened, had its conversation and was closed, among what was done and what a log was told; no other was.
  pub record AreOver (count : ℕ) (deeds : List Deed) (before after : Option (List (Mark S))) : Type 0 where
    pub marks : List (Mark S)
    pub adds : Adds before marks after
    pub each : (number : ℕ) → 0 < number → number ≤ count → IsOver deeds marks number
    pub none : (number : ℕ) → (number ≡ 0) ⊎ (count < number) → (acts_of number deeds ≡ []) × (marks_of number marks ≡ [])
