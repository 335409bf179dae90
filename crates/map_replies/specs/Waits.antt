-- Requests for edits that aren't made yet, and what a query says.
use Rattle.std.specs.Prelude.{◌≡◌, ◌<◌, ℕ, List, take, drop}
use Rattle.http_requests.specs.Requests.{RequestView}
use Rattle.tile_routes.specs.Paths.{asked_edits}
use Rattle.map_replies.specs.declared.preparing.PreparingReplies.{PreparingReplies}
use Rattle.map_replies.specs.Meanings.{asked_for}
use Rattle.map_replies.specs.Preparing.{inner_service}
use Rattle.map_replies.specs.State.{access_of}

-- a text has a word somewhere
abbrev pub Contains : (text word : List ℕ) → Type 0
Contains text word = (start : ℕ) × (count : ℕ) × (take count (drop start text) ≡ word)

-- the first edit that a request asks for isn't made yet
abbrev pub WaitsForEdit : {D : Type 0} → PreparingReplies D → RequestView → Type 0
WaitsForEdit s request = (number : ℕ) × (asked_for (access_of s.replies) request ≡ asked_edits number) × ((inner_service s).journal.last < number)
