-- A reply in two pieces: its front, which the reply holds, and its rest, which is read in parts.
use Rattle.std.specs.Prelude.{ℕ, ◌≡◌, ◌<◌, List, [], ◌++◌, ◌||◌, Bool, false, cond, take, drop, length, Result, Ok, Err, Option, Some, None, Vec, ⊤}
use Rattle.std.proofs.Common.{Global}
use Rattle.std.specs.Io.KnownBytes.{Appends}
use Rattle.std.specs.Rc.{rc_slice_items}
use Rattle.hex.specs.Hex.{encode_lower}
use Rattle.http_values.specs.Codes.{code_of}
use Rattle.http_serve.specs.declared.connection.ServeFault.{ServeFault}
use Rattle.http_serve.specs.declared.connection.ServeFault.TheVariants as ends
use Rattle.http_serve.specs.declared.contents.SendFault.{SendFault}
use Rattle.http_serve.specs.declared.contents.SendFault.TheVariants as cuts
use Rattle.http_serve.specs.declared.handlers.RestFault.{RestFault}
use Rattle.http_serve.specs.declared.replies.Content.{Content}
use Rattle.http_serve.specs.declared.replies.Content.TheVariants.{Empty, Fixed, Whole, Shared, Spelled, Parts}
use Rattle.http_serve.specs.declared.replies.Reply.{Reply}
use Rattle.http_serve.specs.Reply.{ReplyView, head_view, has_no_content, reply_head}

-- the content bytes that a reply holds: all of them, or the first ones
abbrev pub front_content : Content → List ℕ
front_content Empty = []
front_content (Fixed text) = text.now
front_content (Whole bytes) = bytes.items
front_content (Shared bytes) = rc_slice_items bytes
front_content (Spelled bytes) = encode_lower bytes
front_content (Parts first size) = first.items

-- those of them that lie in memory as they are sent: none of a content that is spelled
abbrev pub lying_content : Content → List ℕ
lying_content Empty = []
lying_content (Fixed text) = text.now
lying_content (Whole bytes) = bytes.items
lying_content (Shared bytes) = rc_slice_items bytes
lying_content (Spelled bytes) = []
lying_content (Parts first size) = first.items

-- What is left to spell of a content waits behind bytes of the front, which are sent before, and the front has room for more.
abbrev pub IsAhead : (taken len capacity : ℕ) → Content → Type 0
IsAhead taken len capacity Empty = ⊤
IsAhead taken len capacity (Fixed text) = ⊤
IsAhead taken len capacity (Whole bytes) = ⊤
IsAhead taken len capacity (Shared bytes) = ⊤
IsAhead taken len capacity (Spelled bytes) = 0 < length bytes → (taken < len) × (1 < capacity)
IsAhead taken len capacity (Parts first size) = ⊤

-- the content bytes after the front, if the content is read in parts and its bytes are parts; otherwise none
abbrev pub rest_content : List ℕ → Content → List ℕ
rest_content parts Empty = []
rest_content parts (Fixed text) = []
rest_content parts (Whole bytes) = []
rest_content parts (Shared bytes) = []
rest_content parts (Spelled bytes) = []
rest_content parts (Parts first size) = drop (length first.items) parts

-- the head of a reply, and the content that it holds
abbrev pub front_bytes : Bool → Bool → Reply → List ℕ
front_bytes close bare reply =
    reply_head close (head_view reply) ++ cond (bare || has_no_content (code_of reply.status)) [] (front_content reply.content)

-- the rest of the content that is sent
abbrev pub rest_bytes : Bool → List ℕ → Reply → List ℕ
rest_bytes bare parts reply = cond (bare || has_no_content (code_of reply.status)) [] (rest_content parts reply.content)

-- the same reply, with content of the same length that is unchanged before an offset
pub record IsLater (offset : ℕ) (reply later : ReplyView) : Type 0 where
  pub same : later ≡ record reply { content = later.content }
  pub size : length later.content ≡ length reply.content
  pub front : take offset later.content ≡ take offset reply.content

-- a reply is cut because of its content only if this is read in parts
abbrev pub IsCutIn : ℕ → SendFault → Type 0
IsCutIn size cuts.Write = ⊤
IsCutIn size cuts.Content = 0 < size

-- the first fact if the reply was written or a write failed; the second if its content couldn't be read to its end
abbrev pub GivesOrFails : Result (Unit {0}) SendFault → (gives fails : Type 0) → Type 0
GivesOrFails (Ok done) gives fails = gives
GivesOrFails (Err cuts.Write) gives fails = gives
GivesOrFails (Err cuts.Content) gives fails = fails

-- the fault of a connection on which this many replies were written in full and the next one was cut
abbrev pub cut_after : ℕ → SendFault → ServeFault
cut_after requests cuts.Write = ends.Write requests
cut_after requests cuts.Content = ends.Content requests

-- ---- a reply that stops before the rest of its content

-- the content is read in parts and sent, and the reply holds its first bytes, from of size, and not all
pub record IsLeft (bare : Bool) (reply : Reply) (from size : ℕ) : Type 0 where
  pub first : Vec ℕ Global
  pub parts : reply.content ≡ Parts first size
  pub from_is : from ≡ length first.items
  pub some : from < size
  pub sent : (bare || has_no_content (code_of reply.status)) ≡ false

-- of all bytes of a reply exactly those are written that come before the rest of its content: before its bytes from this one on
pub record IsStopped (all content : List ℕ) (from size : ℕ) (held holds : Option (List ℕ)) : Type 0 where
  pub size_is : size ≡ length content
  pub some : from < size
  pub front : List ℕ
  pub whole : all ≡ front ++ drop from content
  pub written : Appends held holds front

-- the bytes that a read returned, or None if it failed
abbrev pub read_outcome : {E : Type 0} → Result (Unit {0}) E → (bytes : List ℕ) → Option (List ℕ)
read_outcome (Ok done) bytes = Some bytes
read_outcome (Err fault) bytes = None

-- the same of a content that is read by its ticket: the bytes, or why they couldn't be read
abbrev pub rest_outcome : Result (Unit {0}) RestFault → (bytes : List ℕ) → Result (List ℕ) RestFault
rest_outcome (Ok done) bytes = Ok bytes
rest_outcome (Err fault) bytes = Err fault
