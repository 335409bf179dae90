-- Parts of the published archive, selected by the header field Range (RFC 9110, 14), and the replies with them.
use Rattle.std.specs.Prelude.{◌≡◌, ◌<◌, ◌≤◌, ◌+◌, ◌-◌, ℕ, min, List, [], codes, Option, Some, None}
use Rattle.http_values.specs.Ranges.{IsRange}
use Rattle.http_serve.specs.Reply.{ReplyView}
use Rattle.http_serve.specs.declared.replies.EntityTag.{EntityTag}
use Rattle.http_serve.specs.declared.replies.ContentRange.TheVariants as ranges
use Rattle.http_serve.specs.declared.replies.Tag.{Tag}
use Rattle.http_serve.specs.declared.replies.Tag.TheVariants.{Strong}
use Rattle.tile_service.specs.declared.fault.ServiceFault.TheVariants.{Device}
use Rattle.tile_service.specs.declared.status.Status.{Status}
use Rattle.map_replies.specs.declared.parts.ArchiveRange.{ArchiveRange}
use Rattle.map_replies.specs.declared.parts.ArchiveRange.TheVariants.{Whole, Between, Beyond}
use Rattle.map_replies.specs.Words.{text_type, service_refusal}

-- the range asks for the bytes from first to last
abbrev pub Asks : Option (List ℕ) → (first last : ℕ) → Type 0
Asks None first last = ⊥
Asks (Some value) first last = IsRange value first last

-- The part of total bytes that a range selects. A missing or ignored range selects all of them; one that ends after the last byte is cut there.
abbrev pub IsPart : Option (List ℕ) → (total : ℕ) → ArchiveRange → Type 0
IsPart range total Whole = (first last : ℕ) → ¬ (Asks range first last)
IsPart range total (Between first last) = (asked : ℕ) × Asks range first asked × (first < total) × (last ≡ min asked (total - 1))
IsPart range total Beyond = (first : ℕ) × (last : ℕ) × Asks range first last × (total ≤ first)

-- how many bytes a part has
abbrev pub size_of : ArchiveRange → (total : ℕ) → ℕ
size_of Whole total = total
size_of (Between first last) total = last + 1 - first
size_of Beyond total = 0

-- where it begins
abbrev pub start_of : ArchiveRange → ℕ
start_of Whole = 0
start_of (Between first last) = first
start_of Beyond = 0

unfoldable pub octets_type : List ℕ
octets_type = codes "application/octet-stream"

-- the word of a range that starts after the last byte
unfoldable pub range_word : List ℕ
range_word = codes "Range\n"

-- The entity tag of the published archive: how often one was published, the number of its last edit, and its length. Of archives that were
-- published on one disk no two have the same.
abbrev pub archive_tag : Status → EntityTag
archive_tag status = record { version = status.generation; change = status.published; length = status.archive_len }

-- the same in a reply, where replies have entity tags
abbrev pub shown_tag : (tags : Option ℕ) → EntityTag → Option Tag
shown_tag None tag = None
shown_tag (Some start) tag = Some (Strong tag)

-- The reply with a part of an archive of total bytes: 200 OK, 206 Partial Content, or 416 Range Not Satisfiable. Where it has bytes of the
-- archive it has the archive's tag, if there is one.
abbrev pub part_reply : ArchiveRange → (total : ℕ) → (tag : Option Tag) → (content : List ℕ) → ReplyView
part_reply Whole total tag content =
    record { status = 200; kind = Some octets_type; range = None; tag = tag; allow = None; content = content }
part_reply (Between first last) total tag content =
    record { status = 206; kind = Some octets_type; range = Some (ranges.Part first last total); tag = tag; allow = None; content = content }
part_reply Beyond total tag content =
    record { status = 416; kind = Some text_type; range = Some (ranges.Unsatisfied total); tag = None; allow = None; content = range_word }

-- 304 Not Modified, with the tag of the archive that the client has
abbrev pub unchanged_reply : (tag : Option Tag) → ReplyView
unchanged_reply tag = record { status = 304; kind = None; range = None; tag = tag; allow = None; content = [] }

-- the reply with a part if its bytes were read, or the refusal Device if the disk failed
abbrev pub bytes_reply : ArchiveRange → (total : ℕ) → (tag : Option Tag) → Option (List ℕ) → ReplyView
bytes_reply part total tag None = service_refusal Device
bytes_reply part total tag (Some content) = part_reply part total tag content
