-- What the steps of a connection report.
use Rattle.std.specs.Prelude.{◌≡◌, ◌≢◌, ℕ, ◌<◌, List, [], length, take, Option}
use Rattle.std.specs.Io.KnownBytes.{Appends}
use Rattle.httparse.specs.Grammar.{RequestHead}
use Rattle.http_serve.specs.declared.connection.End.TheVariants.{Turns}
use Rattle.http_serve.specs.declared.serving.Pause.{Pause}
use Rattle.http_serve.specs.declared.serving.Pause.TheVariants.{Ended, More}
use Rattle.http_serve.specs.declared.connection.ServeFault.{ServeFault}
use Rattle.http_serve.specs.declared.connection.ServeFault.TheVariants.{Memory, Read, Write, Content}
use Rattle.http_serve.specs.declared.connection.Served.{Served}
use Rattle.http_requests.specs.declared.frames.TheConstants.{MAX_REQUEST}
use Rattle.http_requests.specs.declared.refusals.Refusal.{Refusal}
use Rattle.http_requests.specs.Requests.{IsRefused, EndsAs, Ending, going, closed, asked, refused}
use Rattle.http_requests.specs.Requests.{RequestView, has_head_method}
use Rattle.http_serve.specs.Reply.{ReplyView, refusal_bytes}
use Rattle.http_serve.specs.Served.{RisesBy, reply_count, AnswersNext, RepliesNext, Carries, Ends, Breaks, Anything}
use Rattle.http_serve.specs.Told.{end_of}

-- what is written at an end that needs no handler
abbrev pub HasPlainEnd : Ending → List ℕ → Type 0
HasPlainEnd going last = ⊥
HasPlainEnd closed last = last ≡ []
HasPlainEnd (asked request) last = ⊥
HasPlainEnd (refused head refusal) last = last ≡ refusal_bytes head refusal

-- the input ended: no bytes are left, or they are refused
pub record IsFinished (waiting : List ℕ) (head : Option RequestHead) (reason : Refusal) (held : Option (List ℕ)) (before : ℕ)
    (served : Served) (holds : Option (List ℕ)) : Type 0 where
  pub ending : Ending
  pub last : List ℕ
  pub told : served.end ≡ end_of ending
  pub plain : HasPlainEnd ending last
  pub ends : IsRefused waiting head reason → EndsAs waiting ending
  pub written : Appends held holds last
  pub counted : RisesBy before (reply_count [] ending) served.requests

-- the input ended and was refused, but a write failed
pub record IsUnfinished (waiting : List ℕ) (head : Option RequestHead) (reason : Refusal) (held : Option (List ℕ)) (before : ℕ)
    (fault : ServeFault) (holds : Option (List ℕ)) : Type 0 where
  pub some : 0 < length waiting
  pub count : ℕ
  pub cut : count < length (refusal_bytes head reason)
  pub told : fault ≡ Write before
  pub written : Appends held holds (take count (refusal_bytes head reason))

module _ {S : Type 0} (replies : S → RequestView → ReplyView → S → Type 0) where
  -- the whole requests of the bytes that waited are answered, and the connection ended or needs more bytes
  abbrev pub IsPaused : S → List ℕ → Option (List ℕ) → ℕ → Pause → S → List ℕ → Option (List ℕ) → Type 0
  IsPaused old waiting held before (Ended served) new rest holds =
      (ending : Ending) × Ends replies old waiting Anything held before ending new holds served.requests
      × (served.end ≡ end_of ending) × (served.end ≢ Turns)
  IsPaused old waiting held before (More requests rejection) new rest holds =
      Carries replies old waiting held before new rest holds requests × (length rest < MAX_REQUEST)
      × (head : Option RequestHead) × (rejection.bare ≡ has_head_method head) × IsRefused rest head rejection.refusal

-- the same with fails, which describes replies whose content the handler couldn't read
module _ {S : Type 0} (replies fails : S → RequestView → ReplyView → S → Type 0) where
  -- a reply was cut
  abbrev pub IsBroken : S → List ℕ → Option (List ℕ) → ℕ → ServeFault → S → Option (List ℕ) → Type 0
  IsBroken old waiting held before Memory new holds = ⊥
  IsBroken old waiting held before (Read requests) new holds = ⊥
  IsBroken old waiting held before (Write requests) new holds =
      Breaks replies (RepliesNext replies Anything) old waiting held before new holds requests
  IsBroken old waiting held before (Content requests) new holds = Breaks replies (AnswersNext fails) old waiting held before new holds requests
