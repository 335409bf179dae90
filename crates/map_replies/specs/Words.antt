-- The replies of the service.
use Rattle.std.specs.Prelude.{ℕ, ◌+◌, ◌-◌, ◌^◌, nat_eq, List, [], ◌++◌, Bool, codes, decimal, Option, Some, None, Result, Ok, Err, if◌then◌else◌}
use Rattle.hex.specs.Hex.{encode_lower}
use Rattle.serde_json.specs.Data.{Data}
use Rattle.serde_json.specs.Written.{compact_text}
use Rattle.http_serve.specs.Reply.{ReplyView, plain_reply}
use Rattle.http_serve.specs.declared.replies.Tag.TheVariants.{Weak}
use Rattle.http_serve.specs.declared.replies.WeakTag.{WeakTag}
use Rattle.feature_model.specs.Data.{FeatureData}
use Rattle.edit_json.specs.Json.{json_of}
use Rattle.feature_model.specs.declared.fault.EditFault.{EditFault}
use Rattle.feature_model.specs.declared.fault.EditFault.TheVariants as edits
use Rattle.tile_routes.specs.declared.target.TileFormat.{TileFormat}
use Rattle.tile_routes.specs.declared.target.TileFormat.TheVariants.{Mvt, Hex}
use Rattle.tile_routes.specs.Methods.{allow_of}
use Rattle.tile_routes.specs.Paths.{Asked}
use Rattle.tile_service.specs.Machine.{OrMemory, got, no_memory}
use Rattle.tile_service.specs.declared.drafting.Drafting.{Drafting}
use Rattle.tile_service.specs.declared.publishing_whole.Published.{Published}
use Rattle.tile_service.specs.declared.status.Status.{Status}
use Rattle.tile_service.specs.declared.fault.ServiceFault.{ServiceFault}
use Rattle.tile_service.specs.declared.fault.ServiceFault.TheVariants as services
use Rattle.map_replies.specs.Digests.{digest_text}
use Rattle.map_replies.specs.declared.fault.RequestFault.{RequestFault}
use Rattle.map_replies.specs.declared.fault.RequestFault.TheVariants.{NotFound, Json, Edit, Condition, Digest, Gone, Memory, Device, Damaged}

unfoldable pub text_type : List ℕ
text_type = codes "text/plain"

unfoldable pub json_type : List ℕ
json_type = codes "application/json"

unfoldable pub tile_type : List ℕ
tile_type = codes "application/vnd.mapbox-vector-tile"

-- ---- refusals

-- the word of a fault of an edit, with a line feed
unfoldable pub edit_word : EditFault → List ℕ
edit_word edits.Member = codes "E1 Member\n"
edit_word edits.Number = codes "E2 Number\n"
edit_word edits.Layer = codes "E3 Layer\n"
edit_word edits.Zoom = codes "E4 Zoom\n"
edit_word edits.Geometry = codes "E5 Geometry\n"
edit_word edits.Tags = codes "E6 Tags\n"
edit_word edits.Value = codes "E7 Value\n"
edit_word edits.Long = codes "E8 Long\n"
edit_word edits.Reach = codes "E9 Reach\n"
edit_word edits.Batch = codes "E10 Batch\n"
edit_word edits.Twice = codes "E11 Twice\n"
edit_word edits.Memory = codes "Memory\n"

-- the word of a full area or journal: its name, the sectors needed, and the sectors free
unfoldable pub full_word : List ℕ → ℕ → ℕ → List ℕ
full_word name need free = (name ++ codes " need ") ++ ((decimal need ++ codes " free ") ++ (decimal free ++ codes "\n"))

-- the word of a refusal by the service
unfoldable pub service_word : ServiceFault → List ℕ
service_word services.Broken = codes "Broken\n"
service_word services.Busy = codes "Busy\n"
service_word services.Idle = codes "Idle\n"
service_word services.NeedsUpgrade = codes "NeedsUpgrade\n"
service_word (services.Limit fault) = edit_word fault
service_word services.NotFound = codes "NotFound\n"
service_word services.NumbersSpent = codes "NumbersSpent\n"
service_word services.Memory = codes "Memory\n"
service_word services.TooManyTiles = codes "TooManyTiles\n"
service_word (services.AreaFull need free) = full_word (codes "AreaFull") need free
service_word (services.JournalFull need free) = full_word (codes "JournalFull") need free
service_word services.Device = codes "Device\n"

-- the word of a fault
unfoldable pub fault_word : RequestFault → List ℕ
fault_word NotFound = codes "NotFound\n"
fault_word Json = codes "Json\n"
fault_word (Edit fault) = edit_word fault
fault_word Condition = codes "Condition\n"
fault_word Digest = codes "Digest\n"
fault_word Gone = codes "Gone\n"
fault_word Memory = codes "Memory\n"
fault_word Device = codes "Device\n"
fault_word Damaged = codes "Damaged\n"

abbrev pub edit_status : EditFault → ℕ
edit_status edits.Memory = 503
edit_status fault = 400

abbrev pub fault_status : RequestFault → ℕ
fault_status NotFound = 404
fault_status Json = 400
fault_status (Edit fault) = edit_status fault
fault_status Condition = 412
fault_status Digest = 409
fault_status Gone = 410
fault_status Memory = 503
fault_status Device = 500
fault_status Damaged = 500

abbrev pub service_status : ServiceFault → ℕ
service_status services.Broken = 500
service_status services.Busy = 409
service_status services.Idle = 409
service_status services.NeedsUpgrade = 409
service_status (services.Limit fault) = edit_status fault
service_status services.NotFound = 404
service_status services.NumbersSpent = 500
service_status services.Memory = 503
service_status services.TooManyTiles = 507
service_status (services.AreaFull need free) = 507
service_status (services.JournalFull need free) = 507
service_status services.Device = 500

-- a refusal, with its word as plain text
abbrev pub refusal_of : RequestFault → ReplyView
refusal_of fault = plain_reply (fault_status fault) (Some text_type) (fault_word fault)

-- a refusal by the service
abbrev pub service_refusal : ServiceFault → ReplyView
service_refusal fault = plain_reply (service_status fault) (Some text_type) (service_word fault)

-- the word of a method that a path doesn't allow
unfoldable pub method_word : List ℕ
method_word = codes "Method\n"

-- no standby is near that the edits of a map have to be on: an edit isn't made
unfoldable pub standby_word : List ℕ
standby_word = codes "Standby\n"

abbrev pub unheard_reply : ReplyView
unheard_reply = plain_reply 503 (Some text_type) standby_word

-- 405 Method Not Allowed, with the methods that the path allows (RFC 9110, 15.5.6)
abbrev pub not_allowed_reply : Asked → ReplyView
not_allowed_reply asked = record { status = 405; kind = Some text_type; range = None; tag = None; allow = Some (allow_of asked); content = method_word }

-- ---- answers

-- a text in JSON
abbrev pub json_reply : List ℕ → ReplyView
json_reply text = plain_reply 200 (Some json_type) text

-- 204 No Content
abbrev pub empty_reply : ReplyView
empty_reply = plain_reply 204 None (codes "")

-- a JSON object with one number, whose text begins thus
unfoldable pub number_body : (start : List ℕ) → ℕ → List ℕ
number_body start number = start ++ decimal number ++ codes "}"

-- the outcome of a call that returns a number: the number, or why the service refuses the call
abbrev pub number_reply : (start : List ℕ) → Result ℕ ServiceFault → ReplyView
number_reply start (Ok number) = json_reply (number_body start number)
number_reply start (Err fault) = service_refusal fault

unfoldable pub edit_start : List ℕ
edit_start = codes "{\"edit\":"

unfoldable pub left_start : List ℕ
left_start = codes "{\"left\":"

-- the outcome of an edit, with its sequence number
abbrev pub outcome_reply : Result ℕ ServiceFault → ReplyView
outcome_reply = number_reply edit_start

-- the outcome of the beginning or of a step of a publication, with how much of it is left
abbrev pub left_reply : Result ℕ ServiceFault → ReplyView
left_reply = number_reply left_start

-- the word of an edit of a number that has another feature than its author saw
unfoldable pub changed_word : ℕ → List ℕ
changed_word id = codes "Changed " ++ decimal id ++ codes "\n"

-- 409 Conflict, with that word
abbrev pub changed_reply : ℕ → ReplyView
changed_reply id = plain_reply 409 (Some text_type) (changed_word id)

-- the word of an edit that would get another number than it has to: the number that the next edit gets
unfoldable pub next_word : (next : ℕ) → List ℕ
next_word next = codes "Next " ++ decimal next ++ codes "\n"

-- 409 Conflict, with that word, after the edit of this number; or the refusal if the numbers are spent
abbrev pub not_next_reply : (last : ℕ) → ReplyView
not_next_reply last =
    if nat_eq last (2 ^ 64 - 1) then service_refusal services.NumbersSpent else plain_reply 409 (Some text_type) (next_word (last + 1))

-- what was published: the length of the archive in bytes, the sequence number of the last edit in it, and its generation
unfoldable pub published_body : Published → List ℕ
published_body p =
    codes "{\"archive\":" ++ decimal p.archive_len ++ codes ",\"edits\":" ++ decimal p.edits ++ codes ",\"generation\":" ++ decimal p.generation
    ++ codes "}"

-- the outcome of a whole publication
abbrev pub published_reply : Result Published ServiceFault → ReplyView
published_reply (Ok p) = json_reply (published_body p)
published_reply (Err fault) = service_refusal fault

-- the outcome of cancelling a publication
abbrev pub cancel_reply : Result (Unit {0}) ServiceFault → ReplyView
cancel_reply (Ok done) = empty_reply
cancel_reply (Err fault) = service_refusal fault

-- what is shown, or out of memory
abbrev pub shown_reply : {A : Type 0} → (reply_of : A → ReplyView) → OrMemory A → ReplyView
shown_reply reply_of (got a) = reply_of a
shown_reply reply_of no_memory = refusal_of Memory

-- the metadata of the map
abbrev pub metadata_reply : Data → ReplyView
metadata_reply d = json_reply (compact_text d)

-- the feature of an id, or 404 if there is none
abbrev pub found_reply : Option FeatureData → ReplyView
found_reply None = refusal_of NotFound
found_reply (Some f) = json_reply (compact_text (json_of f))

-- a feature with its id
unfoldable pub numbered_body : (feature : List ℕ) → ℕ → List ℕ
numbered_body feature id = codes "{\"feature\":" ++ feature ++ codes ",\"id\":" ++ decimal id ++ codes "}"

-- the first feature from an id on, or 404 if there is none
abbrev pub numbered_reply : Option (ℕ × FeatureData) → ReplyView
numbered_reply None = refusal_of NotFound
numbered_reply (Some (id, f)) = json_reply (numbered_body (compact_text (json_of f)) id)

-- ---- the status of the service, as a JSON object in parts, each of which goes on where the one before it ends

-- the length of the archive, and how many sectors of an area it takes with its snapshot
unfoldable pub archive_part : Status → List ℕ
archive_part s =
    codes "{\"archive\":" ++ decimal s.archive_len ++ codes ",\"area\":{" ++ codes "\"sectors\":" ++ decimal s.area_sectors ++ codes ",\"used\":"
    ++ decimal s.area_used

unfoldable pub truth_text : Bool → List ℕ
truth_text truth = if truth then codes "true" else codes "false"

-- whether the service is broken, in how many cells the area that edits touch is counted, and the digest of the map
unfoldable pub broken_part : Status → List ℕ
broken_part s =
    codes "},\"broken\":" ++ truth_text s.broken ++ codes ",\"cells\":" ++ decimal s.cells ++ codes ",\"digest\":\"" ++ digest_text s.digest ++ codes "\""

-- how many tiles of a publication in the making are made, how many entries they need, and how many places of the journal were in use when its map
-- was fixed
unfoldable pub making_text : Drafting → List ℕ
making_text d =
    codes "{\"entries\":" ++ decimal d.entries ++ codes ",\"made\":" ++ decimal d.made ++ codes ",\"places\":" ++ decimal d.places ++ codes "}"

-- the same, if there is one
abbrev pub draft_text : Option Drafting → List ℕ
draft_text None = codes "null"
draft_text (Some d) = making_text d

unfoldable pub draft_part : Option Drafting → List ℕ
draft_part told = codes ",\"drafting\":" ++ draft_text told

-- the number of the last edit, how many features there are, and the generation
unfoldable pub map_part : Status → List ℕ
map_part s = codes ",\"edits\":" ++ decimal s.edits ++ codes ",\"features\":" ++ decimal s.features ++ codes ",\"generation\":" ++ decimal s.generation

-- the last edit that isn't listed any more, and how many places of the journal are in use
unfoldable pub journal_part : Status → List ℕ
journal_part s = codes ",\"journal\":{" ++ codes "\"forgotten\":" ++ decimal s.forgotten ++ codes ",\"places\":" ++ decimal s.journal_places ++ codes ",\"used\":" ++ decimal s.journal_used

-- a number, if there is one
abbrev pub optional_text : Option ℕ → List ℕ
optional_text None = codes "null"
optional_text (Some number) = decimal number

-- the greatest id in use, what is left of the publication under way, and the number of the last edit that is published
unfoldable pub published_part : Status → List ℕ
published_part s =
    codes "},\"last\":" ++ optional_text s.last ++ codes ",\"left\":" ++ optional_text s.left ++ codes ",\"published\":" ++ decimal s.published

-- the sectors of the disk, in how many cells edits came since the last publication, and the version of the disk's format
unfoldable pub disk_part : Status → List ℕ
disk_part s =
    codes ",\"sectors\":" ++ decimal s.sectors ++ codes ",\"stale\":" ++ decimal s.stale ++ codes ",\"version\":" ++ decimal s.version

unfoldable pub status_body : Option Drafting → Status → List ℕ
status_body told s = archive_part s ++ broken_part s ++ draft_part told ++ map_part s ++ journal_part s ++ published_part s ++ disk_part s ++ codes "}"

abbrev pub status_reply : Option Drafting → Status → ReplyView
status_reply told s = json_reply (status_body told s)

-- ---- tiles

abbrev pub format_type : TileFormat → List ℕ
format_type Mvt = tile_type
format_type Hex = text_type

abbrev pub format_content : TileFormat → List ℕ → List ℕ
format_content Mvt bytes = bytes
format_content Hex bytes = encode_lower bytes

-- a tile
abbrev pub tile_reply : TileFormat → List ℕ → ReplyView
tile_reply format bytes = plain_reply 200 (Some (format_type format)) (format_content format bytes)

-- the content of a tile, or 204 if the tile is empty
abbrev pub content_reply : TileFormat → Option (List ℕ) → ReplyView
content_reply format None = empty_reply
content_reply format (Some bytes) = tile_reply format bytes

-- ---- tags of tiles

-- the same reply with the tag of a tile
abbrev pub with_tag : WeakTag → ReplyView → ReplyView
with_tag tag reply = record reply { tag = Some (Weak tag) }

-- the content of a tile with this tag, or 204 with the tag if the tile is empty
abbrev pub tagged_reply : TileFormat → WeakTag → Option (List ℕ) → ReplyView
tagged_reply format tag content = with_tag tag (content_reply format content)

-- 304 Not Modified, with the tag of the tile that the client has
abbrev pub same_tile_reply : WeakTag → ReplyView
same_tile_reply tag = record { status = 304; kind = None; range = None; tag = Some (Weak tag); allow = None; content = [] }
