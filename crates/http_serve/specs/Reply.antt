-- Replies, and their bytes.
use Rattle.std.specs.Prelude.{ℕ, List, [], ◌∷◌, ◌++◌, ◌==◌, ◌||◌, Bool, true, false, cond, length, codes, decimal, Option, Some, None, option_map}
use Rattle.std.specs.Prelude.{IfSome, ◌≤◌, ◌≡◌, ◌+◌, take, drop, ⊤}
use Rattle.std.specs.Rc.{rc_slice_items}
use Rattle.hex.specs.Hex.{encode_lower}
use Rattle.http_values.specs.Codes.{code_of}
use Rattle.http_values.specs.Phrases.{phrase_of}
use Rattle.httparse.specs.Grammar.{RequestHead}
use Rattle.httparse.specs.Spans.{span_bytes}
use Rattle.http_requests.specs.Requests.{Request, asks_to_close, is_head, has_head_method}
use Rattle.http_requests.specs.declared.frames.Frame.{Frame}
use Rattle.http_requests.specs.declared.refusals.Refusal.{Refusal}
use Rattle.http_requests.specs.declared.refusals.Refusal.TheVariants.{Head, Host, Coding, Expect, Length, Body, Short}
use Rattle.http_serve.specs.declared.replies.TheConstants.{MAX_WORD}
use Rattle.http_serve.specs.declared.replies.Content.{Content}
use Rattle.http_serve.specs.declared.replies.Content.TheVariants.{Empty, Fixed, Whole, Shared, Spelled, Parts}
use Rattle.http_serve.specs.declared.replies.ContentRange.{ContentRange}
use Rattle.http_serve.specs.declared.replies.ContentRange.TheVariants.{Part, Unsatisfied}
use Rattle.http_serve.specs.declared.replies.Reply.{Reply}
use Rattle.http_serve.specs.declared.replies.Tag.{Tag}
use Rattle.http_serve.specs.Tags.{written_tag}

-- what a reply says: its status, the type and the range of its content, the entity tag, the allowed methods, and the content
pub record ReplyView : Type 0 where
  pub status : ℕ
  pub kind : Option (List ℕ)
  pub range : Option ContentRange
  pub tag : Option Tag
  pub allow : Option (List ℕ)
  pub content : List ℕ

-- what the head of a reply says: the same, but the length of the content instead of the content
pub record HeadView : Type 0 where
  pub status : ℕ
  pub kind : Option (List ℕ)
  pub range : Option ContentRange
  pub tag : Option Tag
  pub allow : Option (List ℕ)
  pub size : ℕ

abbrev pub head_of : ReplyView → HeadView
head_of reply = record {
  status = reply.status;
  kind = reply.kind;
  range = reply.range;
  tag = reply.tag;
  allow = reply.allow;
  size = length reply.content;
}

-- a reply with only a status, a type and a content
abbrev pub plain_reply : ℕ → Option (List ℕ) → List ℕ → ReplyView
plain_reply status kind content = record { status = status; kind = kind; range = None; tag = None; allow = None; content = content }

-- ---- replies of a program

-- the bytes of a content; if it is read in parts, they are parts
abbrev pub content_bytes : List ℕ → Content → List ℕ
content_bytes parts Empty = []
content_bytes parts (Fixed text) = text.now
content_bytes parts (Whole bytes) = bytes.items
content_bytes parts (Shared bytes) = rc_slice_items bytes
content_bytes parts (Spelled bytes) = encode_lower bytes
content_bytes parts (Parts first size) = parts

-- the declared length of a content
abbrev pub content_size : Content → ℕ
content_size Empty = 0
content_size (Fixed text) = length text.now
content_size (Whole bytes) = length bytes.items
content_size (Shared bytes) = length (rc_slice_items bytes)
content_size (Spelled bytes) = length (encode_lower bytes)
content_size (Parts first size) = size

-- a content that is read in parts has its declared length and begins with its declared first bytes
abbrev pub FitsParts : List ℕ → Content → Type 0
FitsParts parts Empty = ⊤
FitsParts parts (Fixed text) = ⊤
FitsParts parts (Whole bytes) = ⊤
FitsParts parts (Shared bytes) = ⊤
FitsParts parts (Spelled bytes) = ⊤
FitsParts parts (Parts first size) = (length parts ≡ size) × (take (length first.items) parts ≡ first.items)

-- what a reply says; if its content is read in parts, it is these bytes
abbrev pub reply_view : List ℕ → Reply → ReplyView
reply_view parts reply = record {
  status = code_of reply.status;
  kind = option_map (λ kind. kind.now) reply.kind;
  range = reply.range;
  tag = reply.tag;
  allow = option_map (λ allow. allow.now) reply.allow;
  content = content_bytes parts reply.content;
}

-- what its head says
abbrev pub head_view : Reply → HeadView
head_view reply = record {
  status = code_of reply.status;
  kind = option_map (λ kind. kind.now) reply.kind;
  range = reply.range;
  tag = reply.tag;
  allow = option_map (λ allow. allow.now) reply.allow;
  size = content_size reply.content;
}

-- the content type and the list of methods have at most MAX_WORD bytes each, so that the head of a reply is bounded
abbrev pub HasShortWords : HeadView → Type 0
HasShortWords head = IfSome head.kind (λ kind. length kind ≤ MAX_WORD) × IfSome head.allow (λ allow. length allow ≤ MAX_WORD)

-- the view is what a reply says, also if its content is read in parts
abbrev pub IsReply : Reply → ReplyView → Type 0
IsReply reply view = (view ≡ reply_view view.content reply) × FitsParts view.content reply.content

-- a fact that is required only if a content is read in parts
abbrev pub InParts : Content → Type 0 → Type 0
InParts Empty fact = ⊤
InParts (Fixed text) fact = ⊤
InParts (Whole bytes) fact = ⊤
InParts (Shared bytes) fact = ⊤
InParts (Spelled bytes) fact = ⊤
InParts (Parts first size) fact = fact

-- a reply that can be written, and whose content isn't read in parts
abbrev pub IsWhole : Reply → Type 0
IsWhole reply = HasShortWords (head_view reply) × InParts reply.content ⊥

-- the same reply with these bytes at an offset of its content
abbrev pub with_part : (offset : ℕ) → List ℕ → ReplyView → ReplyView
with_part offset part reply =
    record reply { content = take offset reply.content ++ part ++ drop (offset + length part) reply.content }

-- ---- bytes

abbrev pub line_end : List ℕ
line_end = 13 ∷ 10 ∷ []

-- the line of a field whose value is a word, if there is one; the name ends with a colon and a space
unfoldable pub word_line : List ℕ → Option (List ℕ) → List ℕ
word_line name None = []
word_line name (Some word) = name ++ word ++ line_end

-- the name of the content-type field
unfoldable pub type_name : List ℕ
type_name = codes "content-type: "

-- the name of the allow field
unfoldable pub allow_name : List ℕ
allow_name = codes "allow: "

-- the content-range line of a part: its first byte, its last byte, and the total number of bytes (RFC 9110, 14.4)
unfoldable pub part_line : ℕ → ℕ → ℕ → List ℕ
part_line first last total =
    codes "content-range: bytes " ++ decimal first ++ codes "-" ++ decimal last ++ codes "/" ++ decimal total ++ line_end

-- the content-range line of an unsatisfied range: the total number of bytes
unfoldable pub unsatisfied_line : ℕ → List ℕ
unsatisfied_line total = codes "content-range: bytes */" ++ decimal total ++ line_end

-- the content-range line, if there is a range
abbrev pub range_line : Option ContentRange → List ℕ
range_line None = []
range_line (Some (Part first last total)) = part_line first last total
range_line (Some (Unsatisfied total)) = unsatisfied_line total

-- the etag line (RFC 9110, 8.8.3)
unfoldable pub tag_line : Tag → List ℕ
tag_line tag = codes "etag: " ++ written_tag tag ++ line_end

-- the etag line, if there is an entity tag
abbrev pub tag_lines : Option Tag → List ℕ
tag_lines None = []
tag_lines (Some tag) = tag_line tag

-- the content-length line
unfoldable pub length_line : ℕ → List ℕ
length_line size = codes "content-length: " ++ decimal size ++ line_end

-- the line that announces the end of the connection, if it ends
unfoldable pub closing_line : Bool → List ℕ
closing_line true = codes "connection: close\r\n"
closing_line false = []

-- 204 No Content or 304 Not Modified (RFC 9110, 15.3.5 and 15.4.5)
abbrev pub has_no_content : ℕ → Bool
has_no_content status = status == 204 || status == 304

-- the lines of the fields; those that describe the content are left out of a 204 or 304 reply, but for the entity tag
abbrev pub field_lines : HeadView → List ℕ
field_lines head =
    cond (has_no_content head.status) (tag_lines head.tag ++ word_line allow_name head.allow)
    (word_line type_name head.kind ++ range_line head.range ++ tag_lines head.tag ++ word_line allow_name head.allow ++ length_line head.size)

-- the head of a reply, with its empty line; it says whether the reply is the last one
unfoldable pub reply_head : Bool → HeadView → List ℕ
reply_head close head =
    codes "HTTP/1.1 " ++ decimal head.status ++ codes " " ++ phrase_of head.status ++ line_end
    ++ field_lines head ++ closing_line close ++ line_end

-- the content that is sent: none in a 204 or 304 reply or if only the head is sent
abbrev pub sent_content : Bool → ReplyView → List ℕ
sent_content bare reply = cond (bare || has_no_content reply.status) [] reply.content

-- a reply, in full or only its head; it says whether it is the last one
abbrev pub reply_bytes : Bool → Bool → ReplyView → List ℕ
reply_bytes close bare reply = reply_head close (head_of reply) ++ sent_content bare reply

-- the reply to a request
abbrev pub reply_to : Request → ReplyView → List ℕ
reply_to request reply = reply_bytes (asks_to_close request.head) (is_head request.head.method) reply

-- the reply to the request in a frame of the bytes
abbrev pub reply_at : List ℕ → Frame → ReplyView → List ℕ
reply_at bytes frame reply = reply_bytes frame.close (is_head (span_bytes bytes frame.method)) reply

-- ---- refusals

-- a status, and a text that names the refusal
abbrev pub refused_by : ℕ → List ℕ → ReplyView
refused_by status text = plain_reply status (Some (codes "text/plain")) text

-- the name of the refusal on a line, with 400 Bad Request or the status that RFC 9110 and RFC 9112 define for it
unfoldable pub refusal_view : Refusal → ReplyView
refusal_view Head = refused_by 400 (codes "Head\n")
refusal_view Host = refused_by 400 (codes "Host\n")
refusal_view Coding = refused_by 501 (codes "Coding\n")
refusal_view Expect = refused_by 417 (codes "Expect\n")
refusal_view Length = refused_by 400 (codes "Length\n")
refusal_view Body = refused_by 413 (codes "Body\n")
refusal_view Short = refused_by 400 (codes "Short\n")

-- the reply to an invalid request with this head, if it has one
abbrev pub refusal_bytes : Option RequestHead → Refusal → List ℕ
refusal_bytes head refusal = reply_bytes true (has_head_method head) (refusal_view refusal)
