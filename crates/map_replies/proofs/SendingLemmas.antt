-- An archive that is sent in parts.
use Rattle.std.proofs.Common.{◌≡◌, inl, inr, ℕ, ◌<◌, ◌+◌, ◌-◌, ◌≤◌, List, [], ◌∷◌, ◌++◌, length, take, drop, replicate, slice_range, Option, Some}
use Rattle.std.proofs.Common.{None, min, Bool, true, false}
use Rattle.std.proofs.Common.{refl, sym, ap, ◌∙◌, subst, arith, append_assoc, length-append, length-drop}
use Rattle.std.proofs.lemmas.List.{drop-drop, drop-take, take_all, take-take, take_at, take-append-le, take-append-drop, length-replicate, length-take-le}
use Rattle.std.proofs.lemmas.Option.{none-some}
use Rattle.std.proofs.Common.{Global}
use Rattle.std.specs.Prelude.{Vec, Result, Ok, Err, IfOk, IfErr, OnOk, OnErr}
use Rattle.http_serve.specs.declared.replies.Content.{Content}
use Rattle.http_serve.specs.declared.replies.Content.TheVariants as contents
use Rattle.http_serve.specs.declared.replies.Reply.{Reply}
use Rattle.http_serve.specs.declared.replies.Tag.{Tag}
use Rattle.http_serve.specs.Tags.{tag_text}
use Rattle.http_serve.specs.Reply.{ReplyView, IsWhole, HasShortWords, head_view, InParts, FitsParts, content_bytes, reply_view, with_part}
use Rattle.http_serve.proofs.HandlerLemmas.{shown_reply, whole_reply, none_in_parts}
use Rattle.http_serve.proofs.PartLemmas.{in_parts}
use Rattle.http_serve.specs.Parts.{read_outcome}
use Rattle.sector_disk.specs.Asked.{OnlyReads}
use Rattle.sector_disk.specs.Disk.{History, seen, HasFailed}
use Rattle.sector_disk.proofs.AskedLaws as disks
use Rattle.tile_service.specs.Machine.{Happening, read}
use Rattle.tile_service.specs.Runs.{Takes}
use Rattle.tile_service.specs.Service.{ServiceView, IsUp, ShowsArchive, ReadsFrom, shown_archive, status_of, status_view}
use Rattle.tile_service.specs.Stored.{Stored}
use Rattle.tile_service.proofs.Runs.Callers.{read_step, shown_seen}
use Rattle.tile_service.specs.declared.fault.ServiceFault.TheVariants.{Device}
use Rattle.tile_routes.specs.declared.fault.RouteFault.{RouteFault}
use Rattle.tile_routes.specs.declared.method.Method.{Method}
use Rattle.tile_routes.specs.Paths.{Asked}
use Rattle.map_replies.specs.declared.fault.RequestFault.{RequestFault}
use Rattle.map_replies.specs.declared.fault.RequestFault.TheVariants.{Condition, Memory}
use Rattle.map_replies.specs.declared.parts.ArchiveRange.{ArchiveRange}
use Rattle.map_replies.specs.declared.parts.ArchiveRange.TheVariants.{Whole, Between, Beyond}
use Rattle.map_replies.specs.declared.parts.Sending.{Sending}
use Rattle.map_replies.specs.Meanings.{OrNoMemory, MeansPart, MeansRange, MeansJudged, MeansArchive, MeansAllowed, UnlessRefused, Answers}
use Rattle.map_replies.specs.Meanings.{AnswersAllowed, AnswersMethod, DiskFailed}
use Rattle.map_replies.specs.Conditions.{AskView, judged, needed, range_for, refuses}
use Rattle.map_replies.specs.declared.conditions.Judged.{Judged}
use Rattle.map_replies.specs.declared.conditions.Judged.TheVariants.{Holds, Fails, Unchanged}
use Rattle.map_replies.specs.Parts.{IsPart, start_of, size_of, archive_tag, shown_tag, part_reply, unchanged_reply}
use Rattle.map_replies.specs.Sending.{IsAnswered, IsAnswer, IsBegun, IsAnsweredInParts, IsInside, Begins, SendsPart, AnswersPart, IsSending}
use Rattle.map_replies.specs.Sending.{SendsAsked, SendsMethod}
use Rattle.map_replies.specs.Words.{refusal_of, service_refusal}
use Rattle.map_replies.proofs.Answering.{no_memory_first}

-- ---- lists

-- the first n bytes, padded with zeros if there are fewer
abbrev filled : ℕ → List ℕ → List ℕ
filled n xs = take n (xs ++ replicate n 0)

filled_size : (n : ℕ) (xs : List ℕ) → length (filled n xs) ≡ n
filled_size n xs = length-take-le n (xs ++ replicate n 0) (omega (arith, length-append xs (replicate n 0), length-replicate {A = ℕ} n 0))

filled_same : (n : ℕ) (xs : List ℕ) → length xs ≡ n → filled n xs ≡ xs
filled_same n xs is = take-append-le n xs (replicate n 0) (omega (arith, is)) ∙ take_all n xs (omega (arith, is))

slice_size : (xs : List ℕ) (a n : ℕ) → a + n ≤ length xs → length (slice_range xs a (a + n)) ≡ n
slice_size xs a n within = length-take-le (a + n - a) (drop a xs) (omega (arith, within, length-drop a xs)) ∙ omega arith

slice_front : (xs : List ℕ) (a n count : ℕ) → count ≤ n → slice_range xs a (a + count) ≡ take count (slice_range xs a (a + n))
slice_front xs a n count few =
    let size : a + count - a ≡ count = omega arith in
    ap (λ (k : ℕ). take k (drop a xs)) size ∙ sym (take-take count (a + n - a) (drop a xs) (omega (arith, few)))

-- replacing bytes by the same bytes changes nothing
part_same : (xs part : List ℕ) (offset : ℕ) → part ≡ take (length part) (drop offset xs)
    → take offset xs ++ part ++ drop (offset + length part) xs ≡ xs
part_same xs part offset is =
    let n : ℕ = length part in
    append_assoc (take offset xs) part (drop (offset + n) xs)
    ∙ ap (λ (t : List ℕ). take offset xs ++ t)
    ((λ i. is i ++ drop_sum offset n xs i) ∙ take-append-drop n (drop offset xs))
    ∙ take-append-drop offset xs
  where
    drop_sum : (a n : ℕ) (xs : List ℕ) → drop (a + n) xs ≡ drop n (drop a xs)
    drop_sum a n xs = sym (drop-drop n a xs)

-- a piece of a slice
pub slice_inner : (xs piece : List ℕ) (a size offset : ℕ) → offset + length piece ≤ size
    → piece ≡ slice_range xs (a + offset) (a + offset + length piece)
    → piece ≡ take (length piece) (drop offset (slice_range xs a (a + size)))
slice_inner xs piece a size offset within is =
    let n : ℕ = length piece in
    let rest : ℕ = size - offset in
    let count : a + offset + n - (a + offset) ≡ n = omega arith in
    let split : a + size - a ≡ offset + rest = omega (arith, within) in
    let inside : drop offset (take (a + size - a) (drop a xs)) ≡ take rest (drop offset (drop a xs)) =
    ap (λ (k : ℕ). drop offset (take k (drop a xs))) split ∙ drop-take offset rest (drop a xs) in
    is ∙ ap (λ (k : ℕ). take k (drop (a + offset) xs)) count ∙ ap (take n) (sym (drop-drop offset a xs))
    ∙ sym (take-take n rest (drop offset (drop a xs)) (omega (arith, within))) ∙ ap (take n) (sym inside)

-- an empty list is the empty slice from an offset on
no_slice : (xs part : List ℕ) (at : ℕ) → length part ≡ 0 → part ≡ slice_range xs at (at + length part)
no_slice xs [] at none = let size : at + 0 - at ≡ 0 = omega arith in ap (λ (n : ℕ). take n (drop at xs)) (sym size)
no_slice xs (x ∷ part) at none = absurd (omega (arith, none))

-- ---- answers

pub answer_on : (P Q P' Q' : ReplyView → Type 0) (reply : Reply) → ((view : ReplyView) → P view → P' view) → ((view : ReplyView) → Q view → Q' view)
    → IsAnswer P Q reply → IsAnswer P' Q' reply
answer_on P Q P' Q' reply f g is = (is.0, is.1, f is.0 is.2, in_parts reply.content (Q is.0) (Q' is.0) (g is.0) is.3)

pub answered_on : (P Q P' Q' : ReplyView → Type 0) (r : Result Reply RequestFault) → ((view : ReplyView) → P view → P' view)
    → ((view : ReplyView) → Q view → Q' view) → IsAnsweredInParts P Q r → IsAnsweredInParts P' Q' r
answered_on P Q P' Q' (Ok reply) f g is = answer_on P Q P' Q' reply f g is
answered_on P Q P' Q' (Err fault) f g is = f (refusal_of fault) is

-- a reply whose content isn't read in parts
pub whole_is : (P Q : ReplyView → Type 0) (reply : Reply) → IsWhole reply → P (reply_view [] reply) → IsAnswer P Q reply
whole_is P Q reply is meant = (reply_view [] reply, whole_reply reply is.1, meant, none_in_parts reply.content (Q (reply_view [] reply)) is.1)

pub whole_answer : (P Q : ReplyView → Type 0) (r : Result Reply RequestFault) → IsAnswered P r → IfOk r IsWhole → IsAnsweredInParts P Q r
whole_answer P Q (Ok reply) meant is = whole_is P Q reply is meant
whole_answer P Q (Err fault) meant is = meant

pub whole_words : (r : Result Reply RequestFault) → IfOk r IsWhole → IfOk r (λ reply. HasShortWords (head_view reply))
whole_words (Ok reply) is = is.0
whole_words (Err fault) is = tt

-- a whole reply has all of its content
pub whole_begun : (reply : Reply) → IsWhole reply → IsBegun reply.content
whole_begun reply is = begun_in reply.content is.1
  where
    begun_in : (content : Content) → InParts content ⊥ → IsBegun content
    begun_in contents.Empty none = tt
    begun_in (contents.Fixed text) none = tt
    begun_in (contents.Whole bytes) none = tt
    begun_in (contents.Shared bytes) none = tt
    begun_in (contents.Spelled bytes) none = tt
    begun_in (contents.Parts first size) none = absurd none

all_in_parts : (content : Content) (fact : Type 0) → fact → InParts content fact
all_in_parts contents.Empty fact is = tt
all_in_parts (contents.Fixed text) fact is = tt
all_in_parts (contents.Whole bytes) fact is = tt
all_in_parts (contents.Shared bytes) fact is = tt
all_in_parts (contents.Spelled bytes) fact is = tt
all_in_parts (contents.Parts first size) fact is = is

-- ---- parts of an archive

inside_end : (part : ArchiveRange) (total : ℕ) → IsInside part total → start_of part + size_of part total ≤ total
inside_end Whole total inside = omega arith
inside_end (Between first last) total inside = omega (arith, inside.0, inside.1)
inside_end Beyond total inside = absurd inside

pub content_of : (part : ArchiveRange) (total : ℕ) (tag : Option Tag) (a : List ℕ) → IsInside part total
    → (part_reply part total tag a).content ≡ a
content_of Whole total tag a inside = refl
content_of (Between first last) total tag a inside = refl
content_of Beyond total tag a inside = absurd inside

with_content : (part : ArchiveRange) (total : ℕ) (tag : Option Tag) (a b : List ℕ) → IsInside part total
    → record (part_reply part total tag a) { content = b } ≡ part_reply part total tag b
with_content Whole total tag a b inside = refl
with_content (Between first last) total tag a b inside = refl
with_content Beyond total tag a b inside = absurd inside

module _ {D : Type 0} (sectors : D → ℕ) (honest : D → Type 0) (history : D → History) where
  -- ---- reads

  -- a read only reads the disk
  disk_read : (old new : ServiceView D) (at : ℕ) (outcome : Option (List ℕ)) → Takes sectors honest history old (read at outcome) new
      → OnlyReads sectors honest history old.disk new.disk
  disk_read old new at outcome takes = record {
    same_count = takes.asked.same_count;
    was_honest = takes.asked.was_honest;
    same_history = takes.changes.unwritten;
  }

  -- two reads count as one read, with any outcome that agrees with the archive
  reads_on : (old new next : ServiceView D) (a b at : ℕ) (x y outcome : Option (List ℕ)) → Takes sectors honest history old (read a x) new
      → Takes sectors honest history new (read b y) next
      → ((archive : List ℕ) → ShowsArchive (history old.disk) old archive → honest next.disk → ReadsFrom archive (read at outcome))
      → Takes sectors honest history old (read at outcome) next
  reads_on old new next a b at x y outcome first second from = read_step sectors honest history old next
      (second.changes.same ∙ ap (λ (s : ServiceView D). record s { disk = next.disk; published = next.published; kept = next.kept }) first.changes.same)
      (disks.reads_on (disk_read old new a x first) (disk_read new next b y second))
      (λ stored up is_honest. second.after stored is_honest (first.after stored (second.asked.was_honest is_honest) up (λ is. is)) (λ is. is))
      at outcome from

  -- a call that reads the archive: it gives bytes, or fails
  module _ (old new : ServiceView D) (same : new ≡ record old { disk = new.disk }) (reads : OnlyReads sectors honest history old.disk new.disk)
      (up : (stored : Stored) → IsUp (sectors old.disk) (history old.disk) stored old → honest new.disk
      → IsUp (sectors new.disk) (history new.disk) stored new) where
    read_as : (at : ℕ) (outcome : Option (List ℕ))
        → ((archive : List ℕ) → ShowsArchive (history old.disk) old archive → honest new.disk → ReadsFrom archive (read at outcome))
        → Takes sectors honest history old (read at outcome) new
    read_as at outcome from = read_step sectors honest history old new
        (same ∙ (λ i. record old { disk = new.disk; published = published i; kept = kept i })) reads up at outcome from
      where
        published : old.published ≡ new.published
        published = sym (ap (λ (s : ServiceView D). s.published) same)

        kept : old.kept ≡ new.kept
        kept = sym (ap (λ (s : ServiceView D). s.kept) same)

    pub gives_bytes : (at size : ℕ) (bytes : List ℕ) → length bytes ≡ size
        → ((archive : List ℕ) → ShowsArchive (history old.disk) old archive → honest new.disk → bytes ≡ slice_range archive at (at + size))
        → Takes sectors honest history old (read at (Some bytes)) new
    gives_bytes at size bytes long given = read_as at (Some bytes) (λ archive shows is_honest.
        given archive shows is_honest ∙ ap (λ (n : ℕ). slice_range archive at (at + n)) (sym long))

    pub gives_none : (at : ℕ) → Takes sectors honest history old (read at None) new
    gives_none at = read_as at None (λ archive shows is_honest. tt)

  -- no bytes are read
  pub reads_nothing : (old : ServiceView D) (at : ℕ) (part : List ℕ) → length part ≡ 0 → Takes sectors honest history old (read at (Some part)) old
  reads_nothing old at part none = read_step sectors honest history old old refl (disks.reads_none old.disk)
      (λ stored up is_honest. up) at (Some part) (λ archive shows is_honest. no_slice archive part at none)

  -- the same archive is shown after a read
  pub shows_on : (old new : ServiceView D) (at : ℕ) (outcome : Option (List ℕ)) (archive : List ℕ) → Takes sectors honest history old (read at outcome) new
      → honest new.disk → ShowsArchive (history old.disk) old archive → ShowsArchive (history new.disk) new archive
  shows_on old new at outcome archive takes is_honest shows =
      subst (λ (h : History). ShowsArchive h new archive) (sym (takes.changes.unwritten is_honest))
      (subst (λ (s : ServiceView D). ShowsArchive (history old.disk) s archive) (sym takes.changes.same) shows)

  -- the first bytes are read, and the others are those that a read would give
  begun_bytes : (old new : ServiceView D) (first size : ℕ) (begun : List ℕ) → first + size ≤ old.archive_len → length begun ≤ size
      → Takes sectors honest history old (read first (Some begun)) new
      → (bytes : List ℕ) × (length bytes ≡ size) × (take (length begun) bytes ≡ begun) × Takes sectors honest history old (read first (Some bytes)) new
  begun_bytes old new first size begun within few takes =
      let count : ℕ = length begun in
      let all : List ℕ = filled old.archive_len (shown_archive (seen (history old.disk)) old) in
      let base : List ℕ = slice_range all first (first + size) in
      let base_size : length base ≡ size =
      slice_size all first size (omega (arith, within, filled_size old.archive_len (shown_archive (seen (history old.disk)) old))) in
      let bytes : List ℕ = begun ++ drop count base in
      let long : length bytes ≡ size = omega (arith, length-append begun (drop count base), length-drop count base, base_size, few) in (
        bytes,
        long,
        take_at begun (drop count base) count refl,
        read_step sectors honest history old new takes.changes.same (disk_read old new first (Some begun) takes)
            (λ stored up is_honest. takes.after stored is_honest up (λ is. is)) first (Some bytes) (λ archive shows is_honest.
            let is : all ≡ archive =
            ap (filled old.archive_len) (shown_seen (history old.disk) old archive shows) ∙ filled_same old.archive_len archive shows.length_is in
            let whole : base ≡ slice_range archive first (first + size) = ap (λ (xs : List ℕ). slice_range xs first (first + size)) is in
            let front : begun ≡ take count base =
            takes.archive archive shows is_honest ∙ slice_front archive first size count few ∙ ap (take count) (sym whole) in
            ap (λ (xs : List ℕ). xs ++ drop count base) front ∙ take-append-drop count base ∙ whole
            ∙ ap (λ (n : ℕ). slice_range archive first (first + n)) (sym long)),
      )

  pub begins : (old new : ServiceView D) (first size : ℕ) (begun : Vec ℕ Global) → first + size ≤ old.archive_len → length begun.items ≤ size
      → Takes sectors honest history old (read first (Some begun.items)) new → Begins sectors honest history old new first size (contents.Parts begun size)
  begins old new first size begun within few takes = let bytes = begun_bytes old new first size begun.items within few takes in
      (bytes.0, (bytes.1, bytes.2), refl, bytes.1, bytes.3)

-- over a disk that counts its faults
module _ {D : Type 0} (sectors : D → ℕ) (honest : D → Type 0) (history : D → History) (faults : D → ℕ) where
  -- ---- a part that is sent

  answers_read : (tag : Option Tag) (part : ArchiveRange) (old new : ServiceView D) (reply : ReplyView) (content : List ℕ) → IsInside part old.archive_len
      → length content ≡ size_of part old.archive_len → reply ≡ part_reply part old.archive_len tag content
      → Takes sectors honest history old (read (start_of part) (Some content)) new
      → Answers sectors honest history (MeansPart (DiskFailed faults old new) old.archive_len tag part) old new reply
  answers_read tag Whole old new reply content inside long shows takes =
      (read 0 (Some content) ∷ [], (Some content, long, (λ none. absurd (none-some content (sym none))), shows, refl), (new, takes, refl))
  answers_read tag (Between first last) old new reply content inside long shows takes =
      (read first (Some content) ∷ [], (Some content, long, (λ none. absurd (none-some content (sym none))), shows, refl), (new, takes, refl))
  answers_read tag Beyond old new reply content inside long shows takes = absurd inside

  answers_part : (tag : Option Tag) (part : ArchiveRange) (old : ServiceView D) (sending : Sending) (new : ServiceView D) (reply : ReplyView)
      → SendsPart sectors honest history faults tag part old sending new reply
      → Answers sectors honest history (MeansPart (DiskFailed faults old new) old.archive_len tag part) old new reply
  answers_part tag part old sending new reply sends = answers_read tag part old new reply sends.content sends.sent.0 sends.long sends.shows sends.reads

  -- the reply with such a content
  pub part_sent : (tag : Option Tag) (old new : ServiceView D) (part : ArchiveRange) (sending : Sending) (reply : Reply) (content : Content)
      → IsInside part old.archive_len
      → Begins sectors honest history old new (start_of part) (size_of part old.archive_len) content → faults new.disk ≡ faults old.disk
      → reply.content ≡ content
      → ((bytes : List ℕ) → reply_view bytes reply ≡ part_reply part old.archive_len tag (content_bytes bytes content))
      → sending ≡ record { first = start_of part; length = size_of part old.archive_len }
      → AnswersPart sectors honest history faults tag part old sending new reply
  part_sent tag old new part sending reply content inside begun unfailed is shows sent =
      let bytes : List ℕ = begun.0 in
      let sends : SendsPart sectors honest history faults tag part old sending new (reply_view bytes reply) = record {
        sent = (inside, sent);
        content = bytes;
        long = begun.3;
        shows = shows bytes ∙ ap (part_reply part old.archive_len tag) begun.2;
        reads = begun.4;
        unfailed = unfailed;
      } in (
        reply_view bytes reply,
        shown_reply reply bytes (subst (λ (c : Content). FitsParts bytes c) (sym is) begun.1),
        answers_part tag part old sending new (reply_view bytes reply) sends,
        all_in_parts reply.content _ sends,
      )

  -- the reply if the disk failed
  pub part_failed : (tag : Option Tag) (old new : ServiceView D) (part : ArchiveRange) (sending : Sending) (reply : Reply)
      → IsInside part old.archive_len → IsWhole reply
      → reply_view [] reply ≡ service_refusal Device → DiskFailed faults old new → Takes sectors honest history old (read (start_of part) None) new
      → AnswersPart sectors honest history faults tag part old sending new reply
  part_failed tag old new Whole sending reply inside whole is failed takes =
      whole_is _ _ reply whole (read 0 None ∷ [], (None, tt, (λ none. failed), is, refl), (new, takes, refl))
  part_failed tag old new (Between first last) sending reply inside whole is failed takes =
      whole_is _ _ reply whole (read first None ∷ [], (None, tt, (λ none. failed), is, refl), (new, takes, refl))
  part_failed tag old new Beyond sending reply inside whole is failed takes = absurd inside

  -- ---- the archive

  module _ (tag : Option Tag) (range : Option (List ℕ)) (old : ServiceView D) (sending : Sending) (new : ServiceView D) where
    abbrev AnswersRange : ReplyView → Type 0
    AnswersRange reply =
        Answers sectors honest history (OrNoMemory (MeansRange (DiskFailed faults old new) old.archive_len tag range)) old new reply

    -- a part of it
    asked_part : (part : ArchiveRange) (reply : ReplyView) → IsPart range old.archive_len part
        → Answers sectors honest history (MeansPart (DiskFailed faults old new) old.archive_len tag part) old new reply → AnswersRange reply
    asked_part part reply asked is = (is.0, inl (part, asked, is.1), is.2)

    pub archive_answered : (part : ArchiveRange) (r : Result Reply RequestFault) → 0 < old.archive_len → IsPart range old.archive_len part
        → IfOk r (AnswersPart sectors honest history faults tag part old sending new) → IfErr r (λ fault. (new ≡ old) × (fault ≡ Memory))
        → IsAnsweredInParts AnswersRange (IsSending sectors honest history faults tag range old sending new) r
    archive_answered part (Ok reply) some asked is refused = answer_on _ _ _ _ reply (λ view. asked_part part view asked)
        (λ view sends. record { some = some; part = part; asked = asked; sends = sends }) is
    archive_answered part (Err fault) some asked is refused = subst (λ (f : RequestFault). AnswersRange (refusal_of f)) (sym refused.1)
        (no_memory_first sectors honest history (MeansRange (DiskFailed faults old new) old.archive_len tag range) old new refused.0)

  module _ (tag : Option Tag) (range : Option (List ℕ)) (old : ServiceView D) (sending : Sending) (new : ServiceView D) (reply : ReplyView)
      (is : IsSending sectors honest history faults tag range old sending new reply) where
    abbrev total : ℕ
    total = old.archive_len

    -- all bytes to send lie within the archive
    pub sent_size : min sending.length (new.archive_len - sending.first) ≡ length reply.content
    sent_size =
        let same : new.archive_len ≡ total = ap (λ (s : ServiceView D). s.archive_len) is.sends.reads.changes.same in
        let first : sending.first ≡ start_of is.part = ap (λ (s : Sending). s.first) is.sends.sent.1 in
        let size : sending.length ≡ size_of is.part total = ap (λ (s : Sending). s.length) is.sends.sent.1 in
        let long : length reply.content ≡ length is.sends.content =
        ap length (ap (λ (r : ReplyView). r.content) is.sends.shows ∙ content_of is.part old.archive_len tag is.sends.content is.sends.sent.0) in
        omega (arith, same, first, size, long, is.sends.long, inside_end is.part total is.sends.sent.0)

    pub sent_answers : AnswersRange tag range old sending new reply
    sent_answers =
        asked_part tag range old sending new is.part reply is.asked (answers_part tag is.part old sending new reply is.sends)

    -- after another read, whatever its outcome, the reply is still correct
    pub still_answers : (next : ServiceView D) (at : ℕ) (outcome : Option (List ℕ)) → Takes sectors honest history new (read at outcome) next
        → AnswersRange tag range old sending next reply
    still_answers next at outcome takes = asked_part tag range old sending next is.part reply is.asked
        (answers_read tag is.part old next reply is.sends.content is.sends.sent.0 is.sends.long is.sends.shows
        (reads_on sectors honest history old new next (start_of is.part) at (start_of is.part) (Some is.sends.content) outcome (Some is.sends.content)
        is.sends.reads takes (λ archive shows is_honest. is.sends.reads.archive archive shows (takes.asked.was_honest is_honest))))

    -- more of it is read
    pub sent_more : (next : ServiceView D) (offset : ℕ) (piece : List ℕ) → Takes sectors honest history new (read (sending.first + offset) (Some piece)) next
        → faults next.disk ≡ faults new.disk → offset + length piece ≤ min sending.length (new.archive_len - sending.first)
        → IsSending sectors honest history faults tag range old sending next (with_part offset piece reply)
    sent_more next offset piece takes unfailed within =
        let content : List ℕ = is.sends.content in
        let start : ℕ = start_of is.part in
        let more : List ℕ = take offset content ++ piece ++ drop (offset + length piece) content in
        let content_is : reply.content ≡ content =
        ap (λ (r : ReplyView). r.content) is.sends.shows ∙ content_of is.part old.archive_len tag content is.sends.sent.0 in
        let first : sending.first ≡ start = ap (λ (s : Sending). s.first) is.sends.sent.1 in
        let size : sending.length ≡ size_of is.part total = ap (λ (s : Sending). s.length) is.sends.sent.1 in
        let fits : offset + length piece ≤ length content = omega (arith, within, size, is.sends.long) in
        let long : length more ≡ length content = omega (
          arith,
          fits,
          length-append (take offset content ++ piece) (drop (offset + length piece) content),
          length-append (take offset content) piece,
          length-take-le offset content (omega (arith, fits)),
          length-drop (offset + length piece) content,
        ) in
        record {
          some = is.some;
          part = is.part;
          asked = is.asked;
          sends = record {
            sent = is.sends.sent;
            content = more;
            long = long ∙ is.sends.long;
            shows = (λ i. record (is.sends.shows i) {
              content = take offset (content_is i) ++ piece ++ drop (offset + length piece) (content_is i);
            }) ∙ with_content is.part old.archive_len tag content more is.sends.sent.0;
            reads = reads_on sectors honest history old new next start (sending.first + offset) start (Some content) (Some piece) (Some more)
                is.sends.reads takes
                (λ archive shows is_honest.
                let was = takes.asked.was_honest is_honest in
                let whole = is.sends.reads.archive archive shows was in
                let got = takes.archive archive (shows_on sectors honest history old new start (Some content) archive is.sends.reads was shows) is_honest in
                let there = slice_inner archive piece start (length content) offset fits
                (subst (λ (f : ℕ). piece ≡ slice_range archive (f + offset) (f + offset + length piece)) first got) in
                part_same content piece offset (there ∙ ap (λ (xs : List ℕ). take (length piece) (drop offset xs)) (sym whole)) ∙ whole
                ∙ ap (λ (n : ℕ). slice_range archive start (start + n)) (sym long));
            unfailed = unfailed ∙ is.sends.unfailed;
          };
        }

  module _ (method : Method) (ask : AskView) (old : ServiceView D) (sending : Sending) (new : ServiceView D) where
    abbrev the_tag : Option Tag
    the_tag = shown_tag ask.tags (archive_tag (status_of old))

    abbrev the_range : Option (List ℕ)
    the_range = range_for method ask

    abbrev AnswersAsked : ReplyView → Type 0
    AnswersAsked reply =
        Answers sectors honest history (OrNoMemory (MeansArchive (DiskFailed faults old new) (archive_tag (status_of old)) method ask)) old new reply

    abbrev Judges : Judged → ReplyView → List Happening → Type 0
    Judges j = MeansJudged (DiskFailed faults old new) old.archive_len the_tag j the_range

    -- where the conditions hold it is what the range selects
    pub range_answers : (reply : ReplyView) → 0 < old.archive_len → judged (tag_text (archive_tag (status_of old))) ask ≡ Holds
        → AnswersRange the_tag the_range old sending new reply → AnswersAsked reply
    range_answers reply some holds (happenings, inl means, takes) =
        (happenings, inl (inr (some, subst (λ (j : Judged). Judges j reply happenings) (sym holds) means)), takes)
    range_answers reply some holds (happenings, inr means, takes) = (happenings, inr means, takes)

    -- so what is done for that range, with that tag, is what is asked
    pub range_asked : (tag : Option Tag) (range : Option (List ℕ)) (r : Result Reply RequestFault) → tag ≡ the_tag → range ≡ the_range
        → 0 < old.archive_len → judged (tag_text (archive_tag (status_of old))) ask ≡ Holds
        → IsAnsweredInParts (AnswersRange tag range old sending new) (IsSending sectors honest history faults tag range old sending new) r
        → IsAnsweredInParts AnswersAsked (SendsAsked sectors honest history faults method ask old sending new) r
    range_asked tag range r tag_is range_is some holds is =
        let asked = subst
        (λ t. IsAnsweredInParts (AnswersRange t the_range old sending new) (IsSending sectors honest history faults t the_range old sending new) r) tag_is
        (subst (λ a. IsAnsweredInParts (AnswersRange tag a old sending new) (IsSending sectors honest history faults tag a old sending new) r)
        range_is is) in
        answered_on _ _ _ _ r (λ view means. range_answers view some holds means) (λ view sends. (holds, sends)) asked

  module _ (method : Method) (ask : AskView) (old : ServiceView D) (sending : Sending) (some : 0 < old.archive_len) where
    -- where they say so, nothing is done: the client wants another archive,
    pub other_wanted : judged (tag_text (archive_tag (status_of old))) ask ≡ Fails → AnswersAsked method ask old sending old (refusal_of Condition)
    other_wanted fails =
        ([], inl (inr (some, subst (λ (j : Judged). Judges method ask old sending old j (refusal_of Condition) []) (sym fails) (refl, refl))), refl)

    -- or it has this one
    pub is_there : (reply : ReplyView) → judged (tag_text (archive_tag (status_of old))) ask ≡ Unchanged
        → reply ≡ unchanged_reply (shown_tag ask.tags (archive_tag (status_of old))) → AnswersAsked method ask old sending old reply
    is_there reply known is =
        ([], inl (inr (some, subst (λ (j : Judged). Judges method ask old sending old j reply []) (sym known) (is, refl))), refl)

  -- what isn't refused by the conditions is done
  pub allowed_answers : (asked : Asked) (method : Method) (ask : AskView) (body : List ℕ) (old new : ServiceView D) (view : ReplyView)
      → refuses (needed ask) method ≡ false → AnswersAllowed sectors honest history faults asked method ask body old new view
      → AnswersMethod sectors honest history faults asked (Ok method) ask body old new view
  allowed_answers asked method ask body old new view free (happenings, is, takes) = (
    happenings,
    subst (λ (b : Bool). UnlessRefused b (MeansAllowed (DiskFailed faults old new) (status_of old) (status_view new) asked method ask body) view
        happenings) (sym free) is,
    takes,
  )

  -- what is refused by them isn't
  pub refused_answers : (asked : Asked) (method : Method) (ask : AskView) (body : List ℕ) (old : ServiceView D) → refuses (needed ask) method ≡ true
      → AnswersMethod sectors honest history faults asked (Ok method) ask body old old (refusal_of Condition)
  refused_answers asked method ask body old refused = (
    [],
    subst (λ (b : Bool). UnlessRefused b (MeansAllowed (DiskFailed faults old old) (status_of old) (status_view old) asked method ask body)
        (refusal_of Condition) []) (sym refused) (refl, refl),
    refl,
  )

  module _ (asked : Asked) (result : Result Method RouteFault) (ask : AskView) (body : List ℕ) (old : ServiceView D) (sending : Sending)
      (new next : ServiceView D) (reply : ReplyView) (is : SendsMethod sectors honest history faults asked result ask old sending new reply) where
    abbrev sent_tag : Option Tag
    sent_tag = shown_tag ask.tags (archive_tag (status_of old))

    abbrev sent_range : Option (List ℕ)
    sent_range = range_for is.0 ask

    asked_answers : (view : ReplyView) → AnswersRange sent_tag sent_range old sending next view
        → AnswersMethod sectors honest history faults asked result ask body old next view
    asked_answers view answers =
        subst (λ (r : Result Method RouteFault). AnswersMethod sectors honest history faults asked r ask body old next view) (sym is.1)
        (allowed_answers asked is.0 ask body old next view is.2
        (subst (λ (a : Asked). AnswersAllowed sectors honest history faults a is.0 ask body old next view) (sym is.3.0)
        (range_answers is.0 ask old sending next view is.3.1.1.some is.3.1.0 answers)))

    -- the disk fails
    pub sends_fails : (at : ℕ) (outcome : Option (List ℕ)) → Takes sectors honest history new (read at outcome) next → DiskFailed faults new next
        → AnswersMethod sectors honest history faults asked result ask body old next reply × DiskFailed faults old next
    sends_fails at outcome takes failed = (
      asked_answers reply (still_answers sent_tag sent_range old sending new reply is.3.1.1 next at outcome takes),
      subst (λ (n : ℕ). HasFailed n (faults next.disk)) is.3.1.1.sends.unfailed failed,
    )

    pub sends_more : (now : Sending) (offset n : ℕ) (piece : List ℕ) → now ≡ sending → length piece ≡ n
        → offset + n ≤ min sending.length (new.archive_len - sending.first) → faults next.disk ≡ faults new.disk
        → Takes sectors honest history new (read (sending.first + offset) (Some piece)) next
        → SendsMethod sectors honest history faults asked result ask old now next (with_part offset piece reply)
        × AnswersMethod sectors honest history faults asked result ask body old next (with_part offset piece reply)
    sends_more now offset n piece same long within unfailed takes =
        let more = sent_more sent_tag sent_range old sending new reply is.3.1.1 next offset piece takes unfailed (omega (arith, long, within)) in (
          (
            is.0,
            is.1,
            is.2,
            (
              is.3.0,
              (
                is.3.1.0,
                subst (λ (s : Sending). IsSending sectors honest history faults sent_tag sent_range old s next (with_part offset piece reply))
                    (sym same) more,
              ),
            ),
          ),
          asked_answers (with_part offset piece reply)
              (sent_answers sent_tag sent_range old sending next (with_part offset piece reply) more),
        )

-- what follows from a successful read
pub read_on : {E : Type 0} (r : Result (Unit {0}) E) (bytes : List ℕ) (Read : Option (List ℕ) → Type 0) (P X : Type 0) → Read (read_outcome r bytes)
    → OnOk r P → (Read (Some bytes) → P → X) → OnOk r X
read_on (Ok done) bytes Read P X is more f = f is more
read_on (Err e) bytes Read P X is more f = tt

-- what follows from a fault
pub err_on : {A E : Type 0} (r : Result A E) (P : E → Type 0) (X : Type 0) → IfErr r P → ((e : E) → P e → X) → OnErr r X
err_on (Ok a) P X is f = tt
err_on (Err e) P X is f = f e is
