-- Contents part by part.
use Rattle.std.proofs.Common.{◌≡◌, ℕ, ◌+◌, ◌-◌, ◌<◌, ◌≤◌, List, [], ◌++◌, Bool, true, false, Option, take, drop, length, refl, sym, ap, ◌∙◌, subst, arith}
use Rattle.std.proofs.Common.{append_assoc, length-drop, Global}
use Rattle.std.specs.Prelude.{cond, min, ◌||◌, Vec}
use Rattle.std.proofs.Math.Seq.{take-add}
use Rattle.std.proofs.lemmas.List.{append-nil, drop-drop, drop-take, drop_at, take-take, take_all, take_at, take-append-drop, length-take-le}
use Rattle.std.specs.Io.KnownBytes.{Appends}
use Rattle.std.specs.Rc.{rc_slice_items}
use Rattle.http_serve.specs.declared.replies.Content.{Content}
use Rattle.http_serve.specs.declared.replies.Content.TheVariants.{Empty, Fixed, Whole, Shared, Spelled, Parts}
use Rattle.http_serve.specs.declared.replies.Reply.{Reply}
use Rattle.http_serve.specs.Parts.{front_content, rest_content, front_bytes, rest_bytes, IsLater, IsCutIn, IsLeft}
use Rattle.http_serve.specs.Parts.{cut_after}
use Rattle.http_serve.specs.Reply.{ReplyView, HeadView, head_of, head_view, reply_view, content_bytes, content_size, FitsParts, IsReply, InParts, with_part}
use Rattle.http_serve.specs.Reply.{has_no_content, reply_head, reply_bytes}
use Rattle.hex.specs.Hex.{encode_lower}
use Rattle.http_values.specs.Codes.{code_of}
use Rattle.http_requests.specs.Requests.{RequestView}
use Rattle.http_serve.specs.declared.contents.SendFault.{SendFault}
use Rattle.http_serve.specs.declared.contents.SendFault.TheVariants as cuts
use Rattle.http_serve.specs.Told.{HasContent, IsNotMemory}
use Rattle.http_serve.proofs.KnownLemmas.{Appends-then, Appends_none}

-- one more part after those so far
next_part : (xs : List ℕ) (offset at count : ℕ) → offset ≤ at
    → take (at - offset) (drop offset xs) ++ take count (drop at xs) ≡ take (at + count - offset) (drop offset xs)
next_part xs offset at count behind =
    let so_far = at - offset in
    let here : drop at xs ≡ drop so_far (drop offset xs) = ap (λ (n : ℕ). drop n xs) (omega arith) ∙ sym (drop-drop so_far offset xs) in
    let size : so_far + count ≡ at + count - offset = omega arith in
    ap (λ (t : List ℕ). take so_far (drop offset xs) ++ take count t) here
    ∙ sym (take-add so_far count (drop offset xs)) ∙ ap (λ (n : ℕ). take n (drop offset xs)) size

-- A part has as many bytes as the buffer, or as are left: it is within both, and has some if the buffer has.
pub part_count : (size at count : ℕ) (buffer : List ℕ) → at < size → count ≡ min (size - at) (length buffer)
    → (count ≤ length buffer) × (at + count ≤ size) × (length (take count buffer) ≡ count) × (0 < length buffer → 0 < count)
part_count size at count buffer below is =
    let fits : count ≤ length buffer = omega (arith, is) in
    (fits, omega (arith, is, below), length-take-le count buffer fits, λ some. omega (arith, is, below, some))

-- one more part is written
pub part_sent : (xs : List ℕ) (offset at count : ℕ) (u v w : Option (List ℕ)) → offset ≤ at → Appends u v (take (at - offset) (drop offset xs))
    → Appends v w (take count (drop at xs)) → Appends u w (take (at + count - offset) (drop offset xs))
part_sent xs offset at count u v w behind so_far more =
    subst (λ (t : List ℕ). Appends u w t) (next_part xs offset at count behind)
    (Appends-then u v w (take (at - offset) (drop offset xs)) (take count (drop at xs)) so_far more)

-- of one more part the first bytes are written
part_cut : (xs : List ℕ) (offset at count : ℕ) (u v w : Option (List ℕ)) (n : ℕ) → offset ≤ at → at + count ≤ length xs
    → Appends u v (take (at - offset) (drop offset xs)) → n < length (take count (drop at xs)) → Appends v w (take n (take count (drop at xs)))
    → (k : ℕ) × (k < length (drop offset xs)) × Appends u w (take k (drop offset xs))
part_cut xs offset at count u v w n behind within so_far some more =
    let size = length-take-le count (drop at xs) (omega (arith, length-drop at xs)) in (
      at + n - offset,
      omega (arith, size, length-drop offset xs),
      part_sent xs offset at n u v w behind so_far
          (subst (λ (t : List ℕ). Appends v w t) (take-take n count (drop at xs) (omega (arith, size))) more),
    )

-- ---- a reply whose content is being read

pub part_there : (reply : ReplyView) (offset : ℕ) (part : List ℕ) → offset + length part ≤ length reply.content
    → take (length part) (drop offset (with_part offset part reply).content) ≡ part
part_there reply offset part within =
    let kept : List ℕ = take offset reply.content in
    let behind : List ℕ = drop (offset + length part) reply.content in
    let kept_size : length kept ≡ offset = length-take-le offset reply.content (omega (arith, within)) in
    ap (λ (xs : List ℕ). take (length part) (drop offset xs)) (append_assoc kept part behind)
    ∙ ap (take (length part)) (drop_at kept (part ++ behind) offset kept_size) ∙ take_at part behind (length part) refl

-- what is later than a later reply is later
later_then : (offset at : ℕ) (reply next later : ReplyView) → offset ≤ at → IsLater offset reply next → IsLater at next later → IsLater offset reply later
later_then offset at reply next later before x y = record {
  same = y.same ∙ ap (λ (r : ReplyView). record r { content = later.content }) x.same;
  size = y.size ∙ x.size;
  front =
      sym (take-take offset at later.content before) ∙ ap (take offset) y.front ∙ take-take offset at next.content before ∙ x.front;
}

later_same : (offset : ℕ) (reply : ReplyView) → IsLater offset reply reply
later_same offset reply = record { same = refl; size = refl; front = refl }

-- what was written of it is the same of the later one
written_later : (offset at : ℕ) (next later : ReplyView) → offset ≤ at → IsLater at next later
    → take (at - offset) (drop offset next.content) ≡ take (at - offset) (drop offset later.content)
written_later offset at next later before is =
    let whole : offset + (at - offset) ≡ at = omega (arith, before) in
    sym (drop-take offset (at - offset) next.content) ∙ ap (λ (n : ℕ). drop offset (take n next.content)) whole
    ∙ sym (ap (drop offset) is.front) ∙ sym (ap (λ (n : ℕ). drop offset (take n later.content)) whole)
    ∙ drop-take offset (at - offset) later.content

module _ {S : Type 0} (replies sends : S → RequestView → ReplyView → S → Type 0) where
  -- Of a reply that was being sent in a first state the bytes from an offset to a place are written, and it is being sent in the second.
  abbrev pub IsSentTo : (offset at size : ℕ) (old new : S) (held holds : Option (List ℕ)) → Type 0
  IsSentTo offset at size old new held holds = (first : S) (request : RequestView) (reply : ReplyView) → sends first request reply old
      → replies first request reply old → length reply.content ≡ size → (later : ReplyView) × IsLater offset reply later × sends first request later new
      × replies first request later new × Appends held holds (take (at - offset) (drop offset later.content))

  pub sent_none : (offset size : ℕ) (old : S) (held : Option (List ℕ)) → IsSentTo offset offset size old old held held
  sent_none offset size old held first request reply sent replied is =
      let none : 0 ≡ offset - offset = omega arith in
      (reply, later_same offset reply, sent, replied, subst (λ (n : ℕ). Appends held held (take n (drop offset reply.content))) none (Appends_none held))

  module _ (offset at size count : ℕ) (old new newer : S) (held holds now : Option (List ℕ)) (before : offset ≤ at)
      (so_far : IsSentTo offset at size old new held holds) where
    -- one more part is written
    pub sent_on : ((first : S) (request : RequestView) (reply : ReplyView) → sends first request reply new → length reply.content ≡ size
        → (later : ReplyView) × IsLater at reply later × replies first request later newer × sends first request later newer
        × Appends holds now (take count (drop at later.content)))
        → IsSentTo offset (at + count) size old newer held now
    sent_on part first request reply sent replied is =
        let next = so_far first request reply sent replied is in
        let last = part first request next.0 next.2 (next.1.size ∙ is) in
        let written = subst (λ (xs : List ℕ). Appends held holds xs) (written_later offset at next.0 last.0 before last.1) next.4 in (
          last.0,
          later_then offset at reply next.0 last.0 before next.1 last.1,
          last.3,
          last.2,
          part_sent last.0.content offset at count held holds now before written last.4,
        )

    -- one more part is written, and not whole
    pub sent_cut : (Given : (first : S) → RequestView → ReplyView → Type 0) → at + count ≤ size
        → ((first : S) (request : RequestView) (reply : ReplyView) → sends first request reply new
        → length reply.content ≡ size → (later : ReplyView) × IsLater at reply later × Given first request later
        × (n : ℕ) × (n < length (take count (drop at later.content))) × Appends holds now (take n (take count (drop at later.content))))
        → (first : S) (request : RequestView) (reply : ReplyView) → sends first request reply old → replies first request reply old
        → length reply.content ≡ size → (later : ReplyView) × IsLater offset reply later × Given first request later
        × ((k : ℕ) × (k < length (drop offset later.content)) × Appends held now (take k (drop offset later.content)))
    sent_cut Given within part first request reply sent replied is =
        let next = so_far first request reply sent replied is in
        let last = part first request next.0 next.2 (next.1.size ∙ is) in
        let written = subst (λ (xs : List ℕ). Appends held holds xs) (written_later offset at next.0 last.0 before last.1) next.4 in
        let cut = part_cut last.0.content offset at count held holds now last.3 before
        (omega (arith, within, last.1.size, next.1.size, is)) written last.4 last.5 in
        (last.0, later_then offset at reply next.0 last.0 before next.1 last.1, last.2, cut)

  -- all of it is written
  pub sent_whole : (offset at size : ℕ) (old new : S) (held holds : Option (List ℕ)) → size ≤ at → IsSentTo offset at size old new held holds
      → (first : S) (request : RequestView) (reply : ReplyView) → sends first request reply old → replies first request reply old
      → length reply.content ≡ size → (later : ReplyView) × IsLater offset reply later × replies first request later new
      × Appends held holds (drop offset later.content)
  sent_whole offset at size old new held holds over so_far first request reply sent replied is =
      let last = so_far first request reply sent replied is in
      let all : take (at - offset) (drop offset last.0.content) ≡ drop offset last.0.content =
      take_all (at - offset) (drop offset last.0.content) (omega (arith, length-drop offset last.0.content, last.1.size, is, over)) in
      (last.0, last.1, last.3, subst (λ (xs : List ℕ). Appends held holds xs) all last.4)

-- ---- front and rest

size_is : (parts : List ℕ) (content : Content) → FitsParts parts content → content_size content ≡ length (content_bytes parts content)
size_is parts Empty fits = refl
size_is parts (Fixed text) fits = refl
size_is parts (Whole bytes) fits = refl
size_is parts (Shared bytes) fits = refl
size_is parts (Spelled bytes) fits = refl
size_is parts (Parts first size) fits = sym fits.0

joined : (parts : List ℕ) (content : Content) → FitsParts parts content → front_content content ++ rest_content parts content ≡ content_bytes parts content
joined parts Empty fits = refl
joined parts (Fixed text) fits = append-nil text.now
joined parts (Whole bytes) fits = append-nil bytes.items
joined parts (Shared bytes) fits = append-nil (rc_slice_items bytes)
joined parts (Spelled bytes) fits = append-nil (encode_lower bytes)
joined parts (Parts first size) fits =
    ap (λ (t : List ℕ). t ++ drop (length first.items) parts) (sym fits.1) ∙ take-append-drop (length first.items) parts

sent_both : (none : Bool) (a b c : List ℕ) → a ++ b ≡ c → cond none [] a ++ cond none [] b ≡ cond none [] c
sent_both true a b c is = refl
sent_both false a b c is = is

pub same_head : (parts : List ℕ) (reply : Reply) → FitsParts parts reply.content → head_view reply ≡ head_of (reply_view parts reply)
same_head parts reply fits = λ i. record {
  status = code_of reply.status;
  kind = (head_view reply).kind;
  range = reply.range;
  tag = reply.tag;
  allow = (head_view reply).allow;
  size = size_is parts reply.content fits i;
}

-- the front of a reply and its rest are the reply
pub front_rest : (close bare : Bool) (parts : List ℕ) (reply : Reply) → FitsParts parts reply.content
    → front_bytes close bare reply ++ rest_bytes bare parts reply ≡ reply_bytes close bare (reply_view parts reply)
front_rest close bare parts reply fits =
    let none = bare || has_no_content (code_of reply.status) in
    append_assoc (reply_head close (head_view reply)) (cond none [] (front_content reply.content)) (cond none [] (rest_content parts reply.content))
    ∙ ap (λ (t : List ℕ). reply_head close (head_view reply) ++ t)
    (sent_both none (front_content reply.content) (rest_content parts reply.content) (content_bytes parts reply.content) (joined parts reply.content fits))
    ∙ ap (λ (head : HeadView). reply_head close head ++ cond none [] (content_bytes parts reply.content)) (same_head parts reply fits)

-- A reply whose content is sent has the bytes behind its first ones as rest.
pub parts_rest : (bare : Bool) (parts : List ℕ) (reply : Reply) (first : Vec ℕ Global) (size from : ℕ)
    → (bare || has_no_content (code_of reply.status)) ≡ false → reply.content ≡ Parts first size → from ≡ length first.items
    → rest_bytes bare parts reply ≡ drop from parts
parts_rest bare parts reply first size from sent is from_is =
    ap (λ (none : Bool). cond none [] (rest_content parts reply.content)) sent
    ∙ ap (rest_content parts) is ∙ ap (λ (n : ℕ). drop n parts) (sym from_is)

-- facts that are required only if a content is read in parts
pub in_parts : (content : Content) (A B : Type 0) → (A → B) → InParts content A → InParts content B
in_parts Empty A B f is = tt
in_parts (Fixed text) A B f is = tt
in_parts (Whole bytes) A B f is = tt
in_parts (Shared bytes) A B f is = tt
in_parts (Spelled bytes) A B f is = tt
in_parts (Parts first size) A B f is = f is

-- the fault reported for a cut is the handler's only if a content is read in parts
pub cut_content : (size requests : ℕ) (fault : SendFault) → IsCutIn size fault → HasContent size (cut_after requests fault)
cut_content size requests cuts.Write is = tt
cut_content size requests cuts.Content is = is

-- and never Memory
pub cut_no_memory : (requests : ℕ) (fault : SendFault) → IsNotMemory (cut_after requests fault)
cut_no_memory requests cuts.Write = tt
cut_no_memory requests cuts.Content = tt

-- ---- a rest that is left

module _ (bare : Bool) (reply : Reply) (view : ReplyView) (from size : ℕ) (left : IsLeft bare reply from size) (is : IsReply reply view) where
  pub left_size : size ≡ length view.content
  left_size = sym (subst (λ (c : Content). FitsParts view.content c) left.parts is.1).0

  pub left_sends : (fact : Type 0) → InParts reply.content fact → fact
  left_sends fact sends = subst (λ (c : Content). InParts c fact) left.parts sends
