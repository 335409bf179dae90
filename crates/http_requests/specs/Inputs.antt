-- The bytes of a connection that were read and not answered, and what of them is to be answered.
use Rattle.std.specs.Prelude.{◌≡◌, ℕ, Bool, List, length, IsTrue, ⊤}
use Rattle.httparse.specs.declared.spans.HeaderSpan.{HeaderSpan}
use Rattle.http_requests.specs.declared.frames.Missing.{Missing}
use Rattle.http_requests.specs.declared.frames.Next.{Next}
use Rattle.http_requests.specs.declared.frames.Next.TheVariants.{Whole, Refused, More}
use Rattle.http_requests.specs.declared.inputs.Asked.{Asked}
use Rattle.http_requests.specs.Frame.{IsNext, IsMissing}

-- the bytes, and how many there is memory for
pub record InputView : Type 0 where
  pub waiting : List ℕ
  pub capacity : ℕ

-- where what was found ends: a request, or else the input
abbrev pub found_end : (input : List ℕ) → Next → ℕ
found_end input (Whole frame) = frame.body.end
found_end input (Refused rejection) = length input
found_end input (More missing) = length input

-- the input begins with this, and there it ends; the header fields of a request are at these spans
abbrev pub IsFound : (input : List ℕ) → (fields : List HeaderSpan) → Asked → Type 0
IsFound input fields asked = IsNext input fields asked.found × (asked.end ≡ found_end input asked.found)

-- it may be answered: it is a request, or bytes that begin with none, whatever follows, or nothing follows
abbrev pub MayAnswer : (ended : Bool) → Next → Type 0
MayAnswer ended (Whole frame) = ⊤
MayAnswer ended (Refused rejection) = ⊤
MayAnswer ended (More missing) = IsTrue ended

-- so it is of what is answered
abbrev pub IsAsked : (input : List ℕ) → (ended : Bool) → (fields : List HeaderSpan) → Asked → Type 0
IsAsked input ended fields asked = IsFound input fields asked × MayAnswer ended asked.found

-- the input begins with no whole request, but may with more bytes behind it
abbrev pub NeedsMore : (input : List ℕ) → Type 0
NeedsMore input = (missing : Missing) × IsMissing input missing.rejection missing.until
