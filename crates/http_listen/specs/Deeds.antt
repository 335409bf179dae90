-- What was done for connections, as events of the handler.
use Rattle.std.specs.Prelude.{◌≡◌, ℕ, List, [], ◌∷◌, Some, ⊤}
use Rattle.http_listen.specs.Asked.{IsOneOrNone}
use Rattle.http_listen.specs.Connections.{Event, at_stretch, at_part, at_preparation}
use Rattle.http_listen.specs.Conversations.{Act, answered, fetched, prepared, Deed}

-- It is the event of an act of the connection of this number: a stretch over the bytes that were answered, which are one request, or begin with
-- none, and after it a writer that held nothing holds the replies; or that read or step.
abbrev pub IsEventOf : (number : ℕ) → Act → Event → Type 0
IsEventOf number (answered bytes out result ticket) (at_stretch s) =
    (s.result ≡ result) × (s.left ≡ Some bytes) × (s.held ≡ Some []) × (s.holds ≡ Some out) × IsOneOrNone bytes
IsEventOf number (answered bytes out result ticket) (at_part t o n r) = ⊥
IsEventOf number (answered bytes out result ticket) (at_preparation c a) = ⊥
IsEventOf number (fetched ticket offset count outcome) (at_stretch s) = ⊥
IsEventOf number (fetched ticket offset count outcome) (at_part t o n r) = (t ≡ ticket) × (o ≡ offset) × (n ≡ count) × (r ≡ outcome)
IsEventOf number (fetched ticket offset count outcome) (at_preparation c a) = ⊥
IsEventOf number (prepared asked) (at_stretch s) = ⊥
IsEventOf number (prepared asked) (at_part t o n r) = ⊥
IsEventOf number (prepared asked) (at_preparation c a) = (c ≡ number) × (a ≡ asked)

-- so it is of each of these, in order
abbrev pub AreEventsOf : List Deed → List Event → Type 0
AreEventsOf [] [] = ⊤
AreEventsOf [] (event ∷ events) = ⊥
AreEventsOf (deed ∷ deeds) [] = ⊥
AreEventsOf (deed ∷ deeds) (event ∷ events) = IsEventOf deed.number deed.act event × AreEventsOf deeds events
