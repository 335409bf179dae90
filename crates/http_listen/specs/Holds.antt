-- What a reply that was made waits for before it is sent.
use Rattle.std.specs.Prelude.{◌≡◌, ◌≤◌, ℕ, ltb, cond, Option, None, Some}
use Rattle.http_requests.specs.declared.frames.Next.{Next}
use Rattle.http_requests.specs.declared.frames.Next.TheVariants.{Whole, Refused, More}
use Rattle.http_serve.specs.declared.handlers.Hold.{Hold}

-- what it still waits for once so much is confirmed
abbrev pub hold_after : ℕ → Option Hold → Option Hold
hold_after confirmed None = None
hold_after confirmed (Some hold) = cond (ltb confirmed hold.least) (Some hold) None

-- the reply to what was found waits for what the handler says that made it; the refusal of what is no request waits for nothing
abbrev pub HoldsFor : {S : Type 0} (holds : S → Option Hold) → Next → S → Option Hold → Type 0
HoldsFor holds (Whole frame) handler hold = hold ≡ holds handler
HoldsFor holds (Refused rejection) handler hold = hold ≡ None
HoldsFor holds (More missing) handler hold = hold ≡ None
