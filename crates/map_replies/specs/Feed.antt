-- The reply with the edits since the last publication.
use Rattle.std.specs.Prelude.{◌≡◌, ◌⊎◌, ◌+◌, ℕ, nat_eq, List, [], ◌∷◌, ◌++◌, length, map, codes, decimal, Option, Some, None, if◌then◌else◌}
use Rattle.std.proofs.Common.{suc}
use Rattle.serde_json.specs.Written.{compact_text}
use Rattle.edit_json.specs.Numbered.{numbered_edit}
use Rattle.edit_text.specs.Recorded.{RecordedEdit}
use Rattle.edit_journal.specs.Records.{RecordData}
use Rattle.feature_model.specs.Data.{EditData}
use Rattle.tile_service.specs.Replayed.{IsRecordFor, AreRecordsFor}
use Rattle.map_replies.specs.Digests.{digest_text}
use Rattle.map_replies.specs.Lists.{joined}
use Rattle.map_replies.specs.declared.fault.RequestFault.{RequestFault}
use Rattle.map_replies.specs.declared.fault.RequestFault.TheVariants.{Memory, Damaged}

-- an edit with its number: `{"changes":[..],"edit":7}`, whose first member is that of a batch's body
unfoldable pub listed_edit : ℕ → EditData → List ℕ
listed_edit number cs = compact_text (numbered_edit number cs)

-- the texts of edits with consecutive numbers
abbrev pub edit_texts : ℕ → List EditData → List (List ℕ)
edit_texts number [] = []
edit_texts number (cs ∷ edits) = listed_edit number cs ∷ edit_texts (suc number) edits

abbrev pub listed_edits : ℕ → List EditData → List ℕ
listed_edits number edits = joined (edit_texts number edits)

-- the changes of edits
abbrev pub changes_of : List RecordedEdit → List EditData
changes_of edits = map (λ (e : RecordedEdit). e.changes) edits

-- The digest of the map after the last edit of all, if a list ends with that one: the next edit is that of the number `next`.
abbrev pub digest_at : (next last digest : ℕ) → Option ℕ
digest_at next last digest = if nat_eq next (last + 1) then Some digest else None

-- a digest, if it is told
abbrev pub digest_member : Option ℕ → List ℕ
digest_member None = []
digest_member (Some digest) = codes "\"digest\":\"" ++ digest_text digest ++ codes "\","

unfoldable pub feed_start : Option ℕ → List ℕ
feed_start digest = codes "{" ++ digest_member digest ++ codes "\"edits\":["

-- the number of the last edit of all
unfoldable pub feed_end : (last : ℕ) → List ℕ
feed_end last = codes "],\"last\":" ++ decimal last ++ codes "}"

-- a digest, if it is told, the edits from a number on, and the number of the last edit
unfoldable pub feed_text : Option ℕ → ℕ → List EditData → (last : ℕ) → List ℕ
feed_text digest first edits last = feed_start digest ++ listed_edits first edits ++ feed_end last

-- the same, where the map after the last edit of all has this digest
abbrev pub feed_body : ℕ → List EditData → (last digest : ℕ) → List ℕ
feed_body first edits last digest = feed_text (digest_at (first + length edits) last digest) first edits last

-- why the edit of a record isn't listed: out of memory, or it is the record of no edit
abbrev pub IsTextFault : RecordData → RequestFault → Type 0
IsTextFault r fault = (fault ≡ Memory) ⊎ ((fault ≡ Damaged) × ((e : RecordedEdit) → IsRecordFor r e → ⊥))

-- why those of some records aren't
abbrev pub IsListFault : List RecordData → RequestFault → Type 0
IsListFault records fault = (fault ≡ Memory) ⊎ ((fault ≡ Damaged) × ((edits : List RecordedEdit) → AreRecordsFor records edits → ⊥))
