-- Which bytes are answered at once.
use Rattle.std.specs.Prelude.{◌≡◌, ◌⊎◌, ◌++◌, ℕ, List, [], Option}
use Rattle.http_requests.specs.Requests.{Request, IsRequest}
use Rattle.http_listen.specs.Talks.{Told, EndsWithin}

-- bytes are one whole request, with nothing behind it
abbrev pub IsOneRequest : List ℕ → Type 0
IsOneRequest bytes = (request : Request) × IsRequest bytes request []

-- bytes begin with no request
abbrev pub HasNoRequest : List ℕ → Type 0
HasNoRequest bytes = (request : Request) (rest : List ℕ) → ¬ (IsRequest bytes request rest)

-- what is answered at once: one request, or bytes that begin with none
abbrev pub IsOneOrNone : List ℕ → Type 0
IsOneOrNone bytes = IsOneRequest bytes ⊎ HasNoRequest bytes

-- bytes begin with no request, whatever follows
abbrev pub IsHopeless : List ℕ → Type 0
IsHopeless bytes = (more : List ℕ) → HasNoRequest (bytes ++ more)

-- Bytes that end after so many of a stream may be answered: they are one request, or begin with none, whatever follows, or there are none, or
-- the stream has told its end, and gave no more before it.
abbrev pub IsDue : (count : ℕ) → Option Told → List ℕ → Type 0
IsDue count told bytes = IsOneRequest bytes ⊎ (IsHopeless bytes ⊎ ((bytes ≡ []) ⊎ EndsWithin count told))
