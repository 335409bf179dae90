-- How far a connection is with the replies to what was answered.
use Rattle.std.specs.Prelude.{◌≡◌, ◌⊎◌, ℕ, Option, None, Some, Result, Ok, Err, ⊤}
use Rattle.http_serve.specs.declared.connection.End.TheVariants.{Closed}
use Rattle.http_serve.specs.declared.connection.Served.{Served}
use Rattle.http_listen.specs.declared.ends.EndFault.{EndFault}
use Rattle.http_listen.specs.declared.peers.Peer.{Peer}
use Rattle.http_listen.specs.declared.rests.Unsent.{Unsent}
use Rattle.http_listen.specs.Lines.{all_requests}

-- What is left to be read of the last reply's content; what the last answer came to, unless its replies are sent and it goes on; and how many requests
-- of the answers before got a whole reply, or of all, as far as 64 bits count.
pub record Course : Type 0 where
  pub left : Option Unsent
  pub outcome : Option (Result Served EndFault)
  pub requests : ℕ

-- nothing was answered
abbrev pub fresh : Course
fresh = record { left = None; outcome = None; requests = 0 }

-- more may be answered once the replies of an answer that came to this are sent
abbrev pub GoesOnAfter : Option (Result Served EndFault) → Type 0
GoesOnAfter None = ⊤
GoesOnAfter (Some (Ok served)) = served.end ≡ Closed
GoesOnAfter (Some (Err fault)) = ⊥

-- how many requests got a whole reply, once these replies are sent too
abbrev pub counted : ℕ → Option (Result Served EndFault) → ℕ
counted requests None = requests
counted requests (Some result) = all_requests requests result

-- all replies are sent
abbrev pub settled : Course → Course
settled c = record { left = None; outcome = None; requests = counted c.requests c.outcome }

-- all that is left to do is that replies are sent, after which more may be answered
abbrev pub MaySettle : Course → Type 0
MaySettle c = (c.left ≡ None) × GoesOnAfter c.outcome

-- nothing changed, or the replies were sent
abbrev pub Settles : Course → Course → Type 0
Settles before after = (after ≡ before) ⊎ (MaySettle before × (after ≡ settled before))

-- the course of a connection
abbrev pub course_of : {S : Type 0} → Peer S → Course
course_of peer = record { left = peer.state.unsent; outcome = peer.state.outcome; requests = peer.state.requests }
