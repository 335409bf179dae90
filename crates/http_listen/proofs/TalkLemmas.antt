-- What follows from what a stream told.
use Rattle.std.proofs.Common.{◌≡◌, ℕ, List, [], ◌++◌, None, Some, refl, sym, ap, ◌∙◌, append_assoc, append-nil, length, take, drop, take-append-drop, subst}
use Rattle.std.proofs.Common.{length-append, le_trans, ◌+◌, arith}
use Rattle.std.proofs.Common.{zero, suc, ◌∷◌, ◌-◌, min}
use Rattle.std.proofs.lemmas.List.{take-append-le, take_min}
use Rattle.std.specs.Prelude.{◌≤◌, ⊤}
use Rattle.std.specs.declared.option.Option.{Option}
use Rattle.http_listen.specs.Talks.{Told, Grows, HasEnded, IsAt, KeepsEnd, Moves, EndsWithin, given_by}

-- Nothing was given or taken.
pub grows_none : (a : Option Told) → Grows a [] [] a
grows_none None = tt
grows_none (Some t) = (sym (append-nil t.given), sym (append-nil t.taken), λ at is. is)

-- Nothing happened.
pub moves_none : (a : Option Told) (w : List ℕ) → Moves a w [] [] a w
moves_none None w = tt
moves_none (Some t) w = (sym (append-nil t.given), ap (λ l. t.taken ++ l) (sym (append-nil w)), λ at is. is)

-- One after the other.
pub moves_both : (a b c : Option Told) (w v u g h m n : List ℕ) → Moves a w g m b v → Moves b v h n c u → Moves a w (g ++ h) (m ++ n) c u
moves_both None None None w v u g h m n p q = tt
moves_both None None (Some c) w v u g h m n p q = absurd q
moves_both None (Some b) c w v u g h m n p q = absurd p
moves_both (Some a) None c w v u g h m n p q = absurd p
moves_both (Some a) (Some b) None w v u g h m n p q = absurd q
moves_both (Some a) (Some b) (Some c) w v u g h m n p q = (
  q.0 ∙ ap (λ l. l ++ h) p.0 ∙ append_assoc a.given g h,
  q.1 ∙ sym (append_assoc b.taken v n) ∙ ap (λ l. l ++ n) p.1 ∙ append_assoc a.taken (w ++ m) n ∙ ap (λ l. a.taken ++ l) (append_assoc w m n),
  λ at is. q.2 at (p.2 at is),
)

-- Steps one after the other, where the last bytes that waited between them are lost.
pub moves_cut : (a b c : Option Told) (w v k u g h m : List ℕ) → Moves a w g m b (v ++ k) → Moves b v h [] c u → Moves a w (g ++ h) m c (u ++ k)
moves_cut None None None w v k u g h m p q = tt
moves_cut None None (Some c) w v k u g h m p q = absurd q
moves_cut None (Some b) c w v k u g h m p q = absurd p
moves_cut (Some a) None c w v k u g h m p q = absurd p
moves_cut (Some a) (Some b) None w v k u g h m p q = absurd q
moves_cut (Some a) (Some b) (Some c) w v k u g h m p q = (
  q.0 ∙ ap (λ l. l ++ h) p.0 ∙ append_assoc a.given g h,
  sym (append_assoc c.taken u k) ∙ ap (λ l. l ++ k) q.1 ∙ ap (λ l. (b.taken ++ l) ++ k) (append-nil v) ∙ append_assoc b.taken v k ∙ p.1,
  λ at is. q.2 at (p.2 at is),
)

-- A read, whatever waits.
pub moves_read : (a b : Option Told) (w g : List ℕ) → Grows a g [] b → Moves a w g [] b w
moves_read None None w g p = tt
moves_read None (Some b) w g p = absurd p
moves_read (Some a) None w g p = absurd p
moves_read (Some a) (Some b) w g p =
    (p.0, ap (λ l. l ++ w) (p.1 ∙ append-nil a.taken) ∙ ap (λ l. a.taken ++ l) (sym (append-nil w)), p.2)

-- A write of the first bytes that wait.
pub moves_sent : (a b : Option Told) (w : List ℕ) (n : ℕ) → Grows a [] (take n w) b → Moves a w [] [] b (drop n w)
moves_sent None None w n p = tt
moves_sent None (Some b) w n p = absurd p
moves_sent (Some a) None w n p = absurd p
moves_sent (Some a) (Some b) w n p = (
  p.0,
  ap (λ l. l ++ drop n w) p.1 ∙ append_assoc a.taken (take n w) (drop n w) ∙ ap (λ l. a.taken ++ l) (take-append-drop n w ∙ sym (append-nil w)),
  p.2,
)

-- More bytes wait.
pub moves_added : (a : Option Told) (w m : List ℕ) → Moves a w [] m a (w ++ m)
moves_added None w m = tt
moves_added (Some t) w m = (sym (append-nil t.given), refl, λ at is. is)

-- A write of the first bytes of a piece.
pub moves_piece : (a b : Option Told) (piece behind w : List ℕ) (n : ℕ) → w ≡ piece ++ behind → n ≤ length piece → Grows a [] (take n piece) b
    → Moves a w [] [] b (drop n w)
moves_piece a b piece behind w n is few grows =
    let same : take n piece ≡ take n w = sym (take-append-le n piece behind few) ∙ sym (ap (take n) is) in
    moves_sent a b w n (subst (λ (l : List ℕ). Grows a [] l b) same grows)

-- The same of a write of the first bytes of a piece's front.
pub moves_front : (a b : Option Told) (piece behind w : List ℕ) (size n : ℕ) → w ≡ piece ++ behind → n ≤ length (take size piece)
    → Grows a [] (take n (take size piece)) b → Moves a w [] [] b (drop n w)
moves_front a b piece behind w size n is few grows =
    let whole : piece ++ behind ≡ take size piece ++ (drop size piece ++ behind) =
    ap (λ l. l ++ behind) (sym (take-append-drop size piece)) ∙ append_assoc (take size piece) (drop size piece) behind in
    moves_piece a b (take size piece) (drop size piece ++ behind) w n (is ∙ whole) few grows

-- ---- two pieces

-- The first bytes of two lists are those of the first one, and of the second one as many as are left.
take_both : (n : ℕ) (xs ys : List ℕ) → take n xs ++ take (n - length xs) ys ≡ take n (xs ++ ys)
take_both zero xs ys = let none : zero - length xs ≡ zero = omega arith in ap (λ (k : ℕ). take k ys) none
take_both (suc n) [] ys = let all : suc n - 0 ≡ suc n = omega arith in ap (λ (k : ℕ). take k ys) all
take_both (suc n) (x ∷ xs) ys =
    let left : suc n - length (x ∷ xs) ≡ n - length xs = omega arith in
    ap (λ (k : ℕ). (x ∷ take n xs) ++ take k ys) left ∙ ap (λ (l : List ℕ). x ∷ l) (take_both n xs ys)

-- the same, with how many these are
pub first_of_both : (front behind : List ℕ) (most count more : ℕ) → count ≡ min (length front) most → more ≡ min (length behind) (most - count)
    → take count front ++ take more behind ≡ take most (front ++ behind)
first_of_both front behind most count more count_is more_is =
    let first : count ≡ min most (length front) = omega (arith, count_is) in
    let left : more ≡ min (most - length front) (length behind) = omega (arith, count_is, more_is) in
    ap (λ (l : List ℕ). l ++ take more behind) (ap (λ (k : ℕ). take k front) first ∙ take_min most front)
    ∙ ap (λ (l : List ℕ). take most front ++ l) (ap (λ (k : ℕ). take k behind) left ∙ take_min (most - length front) behind)
    ∙ take_both most front behind

-- ---- the end of a stream

-- a stream that tells goes on to tell, and an end that it told stays where it is
abbrev pub EndStays : Option Told → Option Told → Type 0
EndStays None None = ⊤
EndStays None (Some new) = ⊥
EndStays (Some old) None = ⊥
EndStays (Some old) (Some new) = KeepsEnd old new

pub moves_stay : (a b : Option Told) (w g m u : List ℕ) → Moves a w g m b u → EndStays a b
moves_stay None None w g m u p = tt
moves_stay None (Some b) w g m u p = absurd p
moves_stay (Some a) None w g m u p = absurd p
moves_stay (Some a) (Some b) w g m u p = p.2

pub ends_stay : (count : ℕ) (a b : Option Told) → EndStays a b → EndsWithin count a → EndsWithin count b
ends_stay count None None s e = tt
ends_stay count None (Some b) s e = absurd s
ends_stay count (Some a) None s e = absurd s
ends_stay count (Some a) (Some b) s e = (e.0, s e.0 e.1, e.2)

pub ends_below : (less count : ℕ) (a : Option Told) → less ≤ count → EndsWithin less a → EndsWithin count a
ends_below less count None le e = tt
ends_below less count (Some t) le e = (e.0, e.1, le_trans e.2 le)

more_given : (a b : Option Told) (w g m u : List ℕ) → Moves a w g m b u → given_by a ≤ given_by b
more_given None None w g m u p = omega arith
more_given None (Some b) w g m u p = absurd p
more_given (Some a) None w g m u p = absurd p
more_given (Some a) (Some b) w g m u p = omega (arith, ap length p.0, length-append a.given g)

-- A stream that has told its end has told it afterwards.
pub ended_then : (a b : Option Told) (w g m u : List ℕ) → Moves a w g m b u → HasEnded a → HasEnded b
ended_then a b w g m u p e =
    ends_below (given_by a) (given_by b) b (more_given a b w g m u p) (ends_stay (given_by a) a b (moves_stay a b w g m u p) e)

-- What a stream gave is what came first, and the rest.
pub at_rest : (a b : Option Told) (front rest m w u : List ℕ) → Moves a w (front ++ rest) m b u → IsAt (given_by a + length front) b rest
at_rest None None front rest m w u p = tt
at_rest None (Some b) front rest m w u p = absurd p
at_rest (Some a) None front rest m w u p = absurd p
at_rest (Some a) (Some b) front rest m w u p =
    omega (arith, ap length p.0, length-append a.given (front ++ rest), length-append front rest)

-- Its end is where all that it gave does.
pub ends_here : (count : ℕ) (a : Option Told) (input : List ℕ) → IsAt count a input → HasEnded a → EndsWithin (count + length input) a
ends_here count None input at e = tt
ends_here count (Some t) input at e = (e.0, e.1, omega (arith, e.2, at))
