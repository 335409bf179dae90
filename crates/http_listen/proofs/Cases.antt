-- What a stretch came to, by its result.
use Rattle.std.proofs.Common.{ℕ, List, [], Bool, Option, None, Some, Result, Ok, Err, refl}
use Rattle.std.specs.declared.alloc.AllocError.{AllocError}
use Rattle.http_requests.specs.Requests.{RequestView}
use Rattle.http_serve.specs.Found.{AnswersFound, ServesFound}
use Rattle.http_serve.specs.Reply.{ReplyView}
use Rattle.http_serve.specs.declared.answers.Rest.{Rest}
use Rattle.http_serve.specs.declared.connection.Answer.{Answer}
use Rattle.http_serve.specs.declared.connection.Served.{Served}
use Rattle.http_listen.specs.Connections.{CameTo, IsAnswered, Stretch}

-- what is left to read of bytes that were to be answered: all, if memory ran out
abbrev pub left_after : List ℕ → Result Answer AllocError → List ℕ
left_after bytes (Ok answer) = []
left_after bytes (Err fault) = bytes

-- the stretch in which they were
abbrev pub stretch_over : Bool → List ℕ → Option (List ℕ) → Result Answer AllocError → Option (List ℕ) → Stretch
stretch_over first bytes held result holds =
    record { first = first; result = result; left = Some bytes; held = held; leaves = Some (left_after bytes result); holds = holds }

module _ {S : Type 0} (replies sends : S → RequestView → ReplyView → S → Type 0) where
  found : (old new : S) (bytes : List ℕ) (held holds : Option (List ℕ)) (answer : Answer) (first : Bool) (served : Served) (rest : Option Rest)
      → AnswersFound replies sends old bytes held served rest new holds
      → IsAnswered replies served rest old (stretch_over first bytes held (Ok answer) holds) new
  found old new bytes held holds answer first served None is = is.told
  found old new bytes held holds answer first served (Some rest) is = (is.close, is.counted, is.part)

  pub came : (old new : S) (bytes : List ℕ) (held holds : Option (List ℕ)) (result : Result Answer AllocError)
      → ServesFound replies sends old bytes held result new holds → (first : Bool)
      → CameTo replies result old (stretch_over first bytes held result holds) new
  came old new bytes held holds (Ok answer) is first = found old new bytes held holds answer first answer.served answer.rest is.answers
  came old new bytes held holds (Err fault) is first = (is.none.0, refl, is.none.1)
