-- What waits to be sent is sent piece by piece.
use Rattle.std.proofs.Common.{◌≡◌, ◌<◌, ◌≤◌, ℕ, List, [], ◌++◌, refl, sym, ap, ◌∙◌, subst, take, drop, length, length-append, length-drop}
use Rattle.std.proofs.Common.{append_assoc, arith, Option, ◌-◌}
use Rattle.std.proofs.lemmas.List.{append-nil, drop-drop, drop_at, take-append-drop, take-append-le, take_all, take_at}
use Rattle.std.specs.Io.KnownBytes.{Appends}
use Rattle.http_serve.specs.Connections.{IsNextPiece}

-- bytes of a piece were taken
pub taken_on : (all sent output piece behind new : List ℕ) (count : ℕ) → all ≡ sent ++ output → output ≡ piece ++ behind → count ≤ length piece
    → new ≡ drop count output → all ≡ (sent ++ take count piece) ++ new
taken_on all sent output piece behind new count is next within left =
    is ∙ ap (λ (t : List ℕ). sent ++ t) (sym (take-append-drop count output))
    ∙ ap (λ (t : List ℕ). sent ++ (t ++ drop count output)) (ap (take count) next ∙ take-append-le count piece behind within)
    ∙ sym (append_assoc sent (take count piece) (drop count output))
    ∙ ap (λ (t : List ℕ). (sent ++ take count piece) ++ t) (sym left)

-- fewer bytes wait then
pub taken_less : (output piece behind new : List ℕ) (count : ℕ) → output ≡ piece ++ behind → count ≤ length piece → 0 < count
    → new ≡ drop count output → length new < length output
taken_less output piece behind new count next within some left =
    omega (arith, ap length left, length-drop count output, ap length next, length-append piece behind, within, some)

-- what was sent isn't all while bytes wait
pub cut_before : (all sent output : List ℕ) (u v : Option (List ℕ)) → all ≡ sent ++ output → 0 < length output → Appends u v sent
    → (n : ℕ) × (n < length all) × Appends u v (take n all)
cut_before all sent output u v is some written = (
  length sent,
  omega (arith, ap length is, length-append sent output, some),
  subst (λ (t : List ℕ). Appends u v t) (sym (ap (take (length sent)) is ∙ take_at sent output (length sent) refl)) written,
)

-- all was sent
pub all_sent : (all sent output : List ℕ) (u v : Option (List ℕ)) → all ≡ sent ++ output → output ≡ [] → Appends u v sent → Appends u v all
all_sent all sent output u v is none written =
    subst (λ (t : List ℕ). Appends u v t) (sym (is ∙ ap (λ (t : List ℕ). sent ++ t) none ∙ append-nil sent)) written

-- what is left of two lists once the first was taken is of the second
pub drop_behind : (n : ℕ) (xs ys : List ℕ) → length xs ≤ n → drop n (xs ++ ys) ≡ drop (n - length xs) ys
drop_behind n xs ys over =
    ap (λ (m : ℕ). drop m (xs ++ ys)) (omega (arith, over)) ∙ sym (drop-drop (n - length xs) (length xs) (xs ++ ys))
    ∙ ap (drop (n - length xs)) (drop_at xs ys (length xs) refl)

-- a slice of the second list from there on
pub second_left : (taken len : ℕ) (front body lent : List ℕ) → len ≡ length front → len ≤ taken → lent ≡ body
    → take (length lent - (taken - len)) (drop (taken - len) lent) ≡ drop taken (front ++ body)
second_left taken len front body lent len_is over is =
    take_all (length lent - (taken - len)) (drop (taken - len) lent) (omega (arith, length-drop (taken - len) lent))
    ∙ ap (drop (taken - len)) is ∙ ap (λ (n : ℕ). drop (taken - n) body) len_is
    ∙ sym (drop_behind taken front body (omega (arith, len_is, over)))

-- all of what waits is a piece
pub all_waits : (piece waiting : List ℕ) → piece ≡ waiting → IsNextPiece piece waiting
all_waits piece waiting is = record { behind = []; is = sym is ∙ sym (append-nil piece); some = λ none. sym is ∙ none }
