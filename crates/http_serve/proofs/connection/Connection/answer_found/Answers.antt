use Rattle.std.proofs.Common.{◌≡◌, [], ℕ, List, Some, length, take, ap, subst, arith}
use Rattle.std.proofs.lemmas.List.{append-nil, take_all}
use Rattle.http_requests.specs.Requests.{IsRefused}
use Rattle.http_requests.proofs.HeadLemmas.{missing_now}
use Rattle.http_serve.proofs.FoundLemmas.{serves_rest}
use Rattle.http_serve.proofs.ServeLemmas.{on_err}
use Rattle.http_serve.proofs.connection.Connection.answer_found.Goals as goal

all_of : (bytes : List ℕ) → take (length bytes) bytes ≡ bytes
all_of bytes = take_all (length bytes) bytes (omega arith)

pub returns-in-Refused-clause-serves : goal.returns-in-Refused-clause-serves
returns-in-Refused-clause-serves g c =
    let is = rw c.in-Refused.is at c.requires.found in
    let rejection = c.in-Refused.rejection in
    let bytes = c.args.self.now.input in
    rw c.in-Refused.is (rw (all_of bytes) (serves_rest g.H.Handler.replies g.H.Handler.sends c.args.handler.now (Some [])
    bytes is.head rejection is.bare
    (subst (λ (t : List ℕ). IsRefused t is.head rejection.refusal) (append-nil bytes) (is.refused [])) _ c.answer_rest.result
    (c.answer_rest.ensures.ends is.head is.bare) c.answer_rest.ensures.whole
    (on_err c.answer_rest.result (λ none. ap Some none) c.answer_rest.ensures.memory)))

pub returns-in-More-clause-serves : goal.returns-in-More-clause-serves
returns-in-More-clause-serves g c =
    let missing = c.in-More.missing in
    let bytes = c.args.self.now.input in
    let is = missing_now bytes missing.rejection missing.until (rw c.in-More.is at c.requires.found) in
    rw c.in-More.is (rw (all_of bytes) (serves_rest g.H.Handler.replies g.H.Handler.sends c.args.handler.now (Some [])
    bytes is.1 missing.rejection is.2 is.3 _ c.answer_rest-in-More.result
    (c.answer_rest-in-More.ensures.ends is.1 is.2) c.answer_rest-in-More.ensures.whole
    (on_err c.answer_rest-in-More.result (λ none. ap Some none) c.answer_rest-in-More.ensures.memory)))
