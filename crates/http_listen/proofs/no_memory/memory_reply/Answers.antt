use Rattle.std.proofs.Common.{◌≡◌, ℕ, List, [], ◌∷◌, ◌++◌, codes, decimal, true, false, refl, ap, ◌∙◌, arith}
use Rattle.std.proofs.lemmas.Fmt.{decimal_digit, decimal_step}
use Rattle.http_values.specs.Phrases.{phrase_of}
use Rattle.http_serve.specs.Reply.{reply_head, word_line, type_name, length_line, closing_line, line_end, reply_bytes, refused_by}
use Rattle.http_listen.specs.NoMemory.{no_memory}
use Rattle.http_listen.proofs.no_memory.memory_reply.Goals as goal

-- the numbers of the reply, in digits
status : decimal 503 ≡ codes "503"
status = decimal_step 503 (omega arith) (omega arith)
    ∙ ap (λ (l : List ℕ). l ++ 51 ∷ []) (decimal_step 50 (omega arith) (omega arith) ∙ ap (λ (l : List ℕ). l ++ 48 ∷ []) (decimal_digit 5 (omega arith)))

size : decimal 7 ≡ codes "7"
size = decimal_digit 7 (omega arith)

-- the reply with these digits
abbrev with_digits : (status size : List ℕ) → List ℕ
with_digits status size =
    (codes "HTTP/1.1 " ++ status ++ codes " " ++ codes "Service Unavailable" ++ line_end
    ++ ((codes "content-type: " ++ codes "text/plain" ++ line_end) ++ [] ++ [] ++ [] ++ codes "content-length: " ++ size ++ line_end)
    ++ codes "connection: close\r\n" ++ line_end)
    ++ codes "Memory\n"

as_digits : reply_bytes true false (refused_by 503 (codes "Memory\n")) ≡ with_digits (decimal 503) (decimal 7)
unfolding reply_head word_line type_name length_line closing_line phrase_of
as_digits = refl

pub returns-clause-spelled : goal.returns-clause-spelled
returns-clause-spelled c = rw (as_digits, ap (λ (s : List ℕ). with_digits s (decimal 7)) status, ap (λ (s : List ℕ). with_digits (codes "503") s) size) refl

named : reply_bytes true false (refused_by 503 (codes "Memory\n")) ≡ no_memory
unfolding no_memory
named = refl

pub returns-clause-same : goal.returns-clause-same
returns-clause-same c = returns-clause-spelled c ∙ named
