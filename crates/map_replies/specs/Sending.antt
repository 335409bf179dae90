-- Replies that send the archive in parts.
use Rattle.std.specs.Prelude.{◌≡◌, ◌<◌, ◌≤◌, ℕ, false, List, [], length, Option, Some, None, Result, Ok, Err, ⊤}
use Rattle.http_serve.specs.Reply.{ReplyView, IsReply, InParts, FitsParts, content_bytes, reply_view}
use Rattle.http_serve.specs.Tags.{tag_text}
use Rattle.http_serve.specs.declared.replies.Content.{Content}
use Rattle.http_serve.specs.declared.replies.Content.TheVariants.{Parts}
use Rattle.http_serve.specs.declared.replies.Reply.{Reply}
use Rattle.http_serve.specs.declared.replies.Tag.{Tag}
use Rattle.sector_disk.specs.Disk.{History}
use Rattle.tile_routes.specs.declared.method.Method.{Method}
use Rattle.tile_routes.specs.declared.fault.RouteFault.{RouteFault}
use Rattle.tile_routes.specs.declared.target.View.TheVariants.{Archive}
use Rattle.tile_routes.specs.Paths.{Asked, asked_view}
use Rattle.tile_service.specs.Machine.{OrMemory, got, no_memory, read}
use Rattle.tile_service.specs.Runs.{Takes}
use Rattle.tile_service.specs.Service.{ServiceView, status_of}
use Rattle.map_replies.specs.declared.fault.RequestFault.{RequestFault}
use Rattle.map_replies.specs.declared.fault.RequestFault.TheVariants.{Memory}
use Rattle.map_replies.specs.declared.parts.ArchiveRange.{ArchiveRange}
use Rattle.map_replies.specs.declared.parts.ArchiveRange.TheVariants.{Whole, Between, Beyond}
use Rattle.map_replies.specs.declared.parts.Sending.{Sending}
use Rattle.map_replies.specs.Meanings.{MeansPart, Answers, DiskFailed}
use Rattle.map_replies.specs.Conditions.{AskView, judged, needed, range_for, refuses}
use Rattle.map_replies.specs.declared.conditions.Judged.TheVariants.{Holds}
use Rattle.map_replies.specs.Parts.{IsPart, start_of, size_of, archive_tag, shown_tag, part_reply}
use Rattle.map_replies.specs.Words.{refusal_of}

-- a result is a reply that isn't sent in parts and satisfies P, or a fault whose refusal satisfies P
abbrev pub IsAnswered : (P : ReplyView → Type 0) → Result Reply RequestFault → Type 0
IsAnswered P (Ok reply) = P (reply_view [] reply)
IsAnswered P (Err fault) = P (refusal_of fault)

-- a result is the reply with what was shown, or out of memory where nothing was
abbrev pub IsShownAs : {A : Type 0} → (reply_of : A → ReplyView) → OrMemory A → Result Reply RequestFault → Type 0
IsShownAs reply_of (got a) (Ok reply) = reply_view [] reply ≡ reply_of a
IsShownAs reply_of no_memory (Err fault) = fault ≡ Memory
IsShownAs reply_of outcome result = ⊥

-- a reply satisfies P, and also Q if its content is read in parts
abbrev pub IsAnswer : (P Q : ReplyView → Type 0) → Reply → Type 0
IsAnswer P Q reply = (view : ReplyView) × IsReply reply view × P view × InParts reply.content (Q view)

-- a result is such a reply, or a fault whose refusal satisfies P
abbrev pub IsAnsweredInParts : (P Q : ReplyView → Type 0) → Result Reply RequestFault → Type 0
IsAnsweredInParts P Q (Ok reply) = IsAnswer P Q reply
IsAnsweredInParts P Q (Err fault) = P (refusal_of fault)

-- a content that is read in parts has its first bytes already, if it has any
abbrev pub IsBegun : Content → Type 0
IsBegun (Parts first size) = 0 < size → 0 < length first.items
IsBegun content = ⊤

-- a part lies within an archive of total bytes
abbrev pub IsInside : ArchiveRange → (total : ℕ) → Type 0
IsInside Whole total = ⊤
IsInside (Between first last) total = (first ≤ last) × (last < total)
IsInside Beyond total = ⊥

-- what is sent is this part
abbrev pub IsSent : ArchiveRange → (total : ℕ) → Sending → Type 0
IsSent part total sending = IsInside part total × (sending ≡ record { first = start_of part; length = size_of part total })

module _ {D : Type 0} (sectors : D → ℕ) (honest : D → Type 0) (history : D → History) where
  -- content that is read in parts begins with size bytes that were read from the archive at offset first
  abbrev pub Begins : (old new : ServiceView D) → (first size : ℕ) → Content → Type 0
  Begins old new first size content = (bytes : List ℕ) × FitsParts bytes content × (content_bytes bytes content ≡ bytes) × (length bytes ≡ size)
      × Takes sectors honest history old (read first (Some bytes)) new

  -- or the disk failed
  abbrev pub BeginsOrFails : (old new : ServiceView D) → (first size : ℕ) → Option Content → Type 0
  BeginsOrFails old new first size (Some content) = Begins old new first size content
  BeginsOrFails old new first size None = Takes sectors honest history old (read first None) new

  -- over a disk that counts its faults
  module _ (faults : D → ℕ) where
    -- a part is being sent: the reply contains what was read so far, and no read has failed
    pub record SendsPart (tag : Option Tag) (part : ArchiveRange) (old : ServiceView D) (sending : Sending) (new : ServiceView D)
        (reply : ReplyView) : Type 0 where
      pub sent : IsSent part old.archive_len sending
      pub content : List ℕ
      pub long : length content ≡ size_of part old.archive_len
      pub shows : reply ≡ part_reply part old.archive_len tag content
      pub reads : Takes sectors honest history old (read (start_of part) (Some content)) new
      pub unfailed : faults new.disk ≡ faults old.disk

    -- a part is read, and is being sent, or the disk failed
    abbrev pub AnswersPart : (tag : Option Tag) → ArchiveRange → (old : ServiceView D) → Sending → (new : ServiceView D) → Reply → Type 0
    AnswersPart tag part old sending new =
        IsAnswer (Answers sectors honest history (MeansPart (DiskFailed faults old new) old.archive_len tag part) old new)
        (SendsPart tag part old sending new)

    -- the part that a range selects is being sent
    pub record IsSending (tag : Option Tag) (range : Option (List ℕ)) (old : ServiceView D) (sending : Sending) (new : ServiceView D)
        (reply : ReplyView) : Type 0 where
      pub some : 0 < old.archive_len
      pub part : ArchiveRange
      pub asked : IsPart range old.archive_len part
      pub sends : SendsPart tag part old sending new reply

    -- the same for what GET or HEAD asks: its conditions hold
    abbrev pub SendsAsked : Method → AskView → (old : ServiceView D) → Sending → (new : ServiceView D) → ReplyView → Type 0
    SendsAsked method ask old sending new reply = (judged (tag_text (archive_tag (status_of old))) ask ≡ Holds)
        × IsSending (shown_tag ask.tags (archive_tag (status_of old))) (range_for method ask) old sending new reply

    -- the same for a method that the path allows: the path is that of the archive
    abbrev pub SendsAllowed : Asked → Method → AskView → (old : ServiceView D) → Sending → (new : ServiceView D) → ReplyView → Type 0
    SendsAllowed asked method ask old sending new reply = (asked ≡ asked_view Archive) × SendsAsked method ask old sending new reply

    -- the same for a method, or one that the path refuses: it allows this one, and so do the conditions
    abbrev pub SendsMethod : Asked → Result Method RouteFault → AskView → (old : ServiceView D) → Sending → (new : ServiceView D) → ReplyView
        → Type 0
    SendsMethod asked result ask old sending new reply =
        (method : Method) × (result ≡ Ok method) × (refuses (needed ask) method ≡ false) × SendsAllowed asked method ask old sending new reply
