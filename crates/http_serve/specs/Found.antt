-- Answers to what was found in bytes that are lent, as to a connection that has no others.
use Rattle.std.specs.Prelude.{◌≡◌, ◌≢◌, ℕ, Bool, List, [], Option, None, Some, Result, IfOk, OnErr}
use Rattle.std.specs.declared.alloc.AllocError.{AllocError}
use Rattle.http_requests.specs.Requests.{RequestView}
use Rattle.http_serve.specs.Connections.{once_replied}
use Rattle.http_serve.specs.Reply.{ReplyView}
use Rattle.http_serve.specs.Served.{AnswersNext}
use Rattle.http_serve.specs.Told.{AnswersInput, IsServed, IsServedInPart, IsServedToRest}
use Rattle.http_serve.specs.declared.answers.Rest.{Rest}
use Rattle.http_serve.specs.declared.connection.Answer.{Answer}
use Rattle.http_serve.specs.declared.connection.End.TheVariants.{Turns}
use Rattle.http_serve.specs.declared.connection.Served.{Served}

module _ {S : Type 0} (replies : S → RequestView → ReplyView → S → Type 0) where
  -- All of these bytes are answered, and the replies are written whole.
  pub record AnswersWhole (old : S) (bytes : List ℕ) (held : Option (List ℕ)) (served : Served) (new : S) (holds : Option (List ℕ)) : Type 0 where
    pub input : AnswersInput replies old (Some bytes) held served new holds
    pub told : IsServed replies old (Some bytes) held served new (Some []) holds
    pub ended : served.end ≢ Turns

-- replies, and those whose content is being read in parts
module _ {S : Type 0} (replies sends : S → RequestView → ReplyView → S → Type 0) where
  -- These bytes are a request, whose reply is written up to the rest of its content. The reply is counted as if the rest were written.
  pub record AnswersToRest (old : S) (bytes : List ℕ) (held : Option (List ℕ)) (served : Served) (rest : Rest) (new : S)
      (holds : Option (List ℕ)) : Type 0 where
    pub close : Bool
    pub counted : served ≡ once_replied close
    pub part : IsServedInPart replies (AnswersNext replies) old (Some bytes) held 0 new (Some []) holds
    pub stops : IsServedToRest replies sends old (Some bytes) held 0 close rest.from rest.length new (Some []) holds

  -- so they are by this answer
  abbrev pub AnswersFound : S → (bytes : List ℕ) → (held : Option (List ℕ)) → Served → Option Rest → S → (holds : Option (List ℕ)) → Type 0
  AnswersFound old bytes held served None new holds = AnswersWhole replies old bytes held served new holds
  AnswersFound old bytes held served (Some rest) new holds = AnswersToRest old bytes held served rest new holds

  -- A connection whose input is these bytes, of which no more come, is answered. If memory runs out, nothing is.
  pub record ServesFound (old : S) (bytes : List ℕ) (held : Option (List ℕ)) (result : Result Answer AllocError) (new : S)
      (holds : Option (List ℕ)) : Type 0 where
    pub answers : IfOk result (λ answer. AnswersFound old bytes held answer.served answer.rest new holds)
    pub none : OnErr result ((new ≡ old) × (holds ≡ held))
