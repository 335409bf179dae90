-- Where the quarters of a curve stand in the next one.
use Rattle.std.proofs.Common.{◌≡◌, ℕ, zero, suc, ◌+◌, ◌-◌, ◌*◌, ◌/◌, ◌%◌, ◌^◌, ◌<◌, ◌≤◌, List, [], ◌∷◌, ◌++◌, length, map, Some, refl, sym, ap, ◌∙◌, arith}
use Rattle.std.specs.Option.{option_map}
use Rattle.std.specs.List.{slice_get}
use Rattle.std.proofs.lemmas.Option.{slice_get-map}
use Rattle.std.proofs.lemmas.List.{length-append, length-map}
use Rattle.std.proofs.lemmas.Nat.{div-add-mod'}
use Rattle.std.proofs.Math.Nat.{pow-succ'}
use Rattle.hilbert_id.specs.Curve.{turned, below, across, flipped, curve, StandsAt}

get_left : {X : Type 0} (xs ys : List X) (n : ℕ) (x : X) → slice_get xs n ≡ Some x → slice_get (xs ++ ys) n ≡ Some x
get_left [] ys n x e = absurd cc
get_left (a ∷ xs) ys zero x e = e
get_left (a ∷ xs) ys (suc n) x e = get_left xs ys n x e

get_right : {X : Type 0} (xs ys : List X) (n m : ℕ) → m ≡ length xs → slice_get (xs ++ ys) (m + n) ≡ slice_get ys n
get_right [] ys n m e = let k : m + n ≡ n = omega arith in rw k refl
get_right (a ∷ xs) ys n m e =
    let k : m + n ≡ suc (length xs + n) = omega arith in
    rw k (get_right xs ys n (length xs) refl)

get_mapped : (f : ℕ × ℕ → ℕ × ℕ) (ps : List (ℕ × ℕ)) (n : ℕ) (p : ℕ × ℕ) → slice_get ps n ≡ Some p → slice_get (map f ps) n ≡ Some (f p)
get_mapped f ps n p e = slice_get-map f ps n ∙ ap (option_map f) e

pub length-curve : (k : ℕ) → length (curve k) ≡ 4 ^ k
unfolding curve
length-curve zero = refl
length-curve (suc k) =
    let c = curve k in
    let h = 2 ^ k in
    omega (
      arith,
      length-append (map turned c) (map (below h) c ++ (map (across h) c ++ map (flipped h) c)),
      length-append (map (below h) c) (map (across h) c ++ map (flipped h) c),
      length-append (map (across h) c) (map (flipped h) c),
      length-map c turned,
      length-map c (below h),
      length-map c (across h),
      length-map c (flipped h),
      length-curve k,
      pow-succ' 4 k,
    )

pub len_of : (k : ℕ) (f : ℕ × ℕ → ℕ × ℕ) → 4 ^ k ≡ length (map f (curve k))
len_of k f = omega (arith, length-map (curve k) f, length-curve k)

pub stands_turned : (k a b n : ℕ) → StandsAt k a b n → StandsAt (suc k) b a n
unfolding curve
stands_turned k a b n e = get_left (map turned (curve k)) _ n (b, a) (get_mapped turned (curve k) n (a, b) e)

pub stands_below : (k a b n : ℕ) → StandsAt k a b n → StandsAt (suc k) a (b + 2 ^ k) (4 ^ k + n)
unfolding curve
stands_below k a b n e =
    get_right (map turned (curve k)) _ n (4 ^ k) (len_of k turned)
    ∙ get_left (map (below (2 ^ k)) (curve k)) _ n (a, b + 2 ^ k) (get_mapped (below (2 ^ k)) (curve k) n (a, b) e)

pub stands_across : (k a b n : ℕ) → StandsAt k a b n → StandsAt (suc k) (a + 2 ^ k) (b + 2 ^ k) (4 ^ k + (4 ^ k + n))
unfolding curve
stands_across k a b n e =
    get_right (map turned (curve k)) _ (4 ^ k + n) (4 ^ k) (len_of k turned)
    ∙ get_right (map (below (2 ^ k)) (curve k)) _ n (4 ^ k) (len_of k (below (2 ^ k)))
    ∙ get_left (map (across (2 ^ k)) (curve k)) _ n (a + 2 ^ k, b + 2 ^ k) (get_mapped (across (2 ^ k)) (curve k) n (a, b) e)

pub stands_flipped : (k a b n : ℕ) → StandsAt k a b n → StandsAt (suc k) (2 * 2 ^ k - 1 - b) (2 ^ k - 1 - a) (4 ^ k + (4 ^ k + (4 ^ k + n)))
unfolding curve
stands_flipped k a b n e =
    get_right (map turned (curve k)) _ (4 ^ k + (4 ^ k + n)) (4 ^ k) (len_of k turned)
    ∙ get_right (map (below (2 ^ k)) (curve k)) _ (4 ^ k + n) (4 ^ k) (len_of k (below (2 ^ k)))
    ∙ get_right (map (across (2 ^ k)) (curve k)) _ n (4 ^ k) (len_of k (across (2 ^ k)))
    ∙ get_mapped (flipped (2 ^ k)) (curve k) n (a, b) e

pub same_position : (zoom k x y n x' y' n' : ℕ) → zoom ≡ suc k → x ≡ x' → y ≡ y' → n ≡ n' → StandsAt (suc k) x' y' n' → StandsAt zoom x y n
same_position zoom k x y n x' y' n' ez ex ey en h = rw (ez, ex, ey, en) h

-- ---- by the zoom, its half side and its quarter

pub stands_first : (zoom x y : ℕ) → zoom ≡ 0 → x < 2 ^ zoom → y < 2 ^ zoom → StandsAt zoom x y 0
unfolding curve
stands_first zoom x y none hx hy =
    let hx' : x < 2 ^ 0 = rw none at hx in
    let hy' : y < 2 ^ 0 = rw none at hy in
    let ex : x ≡ 0 = omega arith in
    let ey : y ≡ 0 = omega arith in
    rw (none, ex, ey) refl

pub first_quarter : (zoom x y n : ℕ) → 0 < zoom → StandsAt (zoom - 1) y x n → StandsAt zoom x y n
first_quarter zoom x y n some e = same_position zoom (zoom - 1) x y n x y n (omega arith) refl refl refl (stands_turned (zoom - 1) y x n e)

pub second_quarter : (zoom x y n half each : ℕ) → 0 < zoom → half ≡ 2 ^ (zoom - 1) → each ≡ 4 ^ (zoom - 1) → half ≤ y → StandsAt (zoom - 1) x (y - half) n
    → StandsAt zoom x y (each + n)
second_quarter zoom x y n half each some h q le e =
    same_position zoom (zoom - 1) x y (each + n) x (y - half + 2 ^ (zoom - 1)) (4 ^ (zoom - 1) + n) (omega arith) refl (omega arith) (omega arith)
    (stands_below (zoom - 1) x (y - half) n e)

pub third_quarter : (zoom x y n half each : ℕ) → 0 < zoom → half ≡ 2 ^ (zoom - 1) → each ≡ 4 ^ (zoom - 1) → half ≤ x → half ≤ y
    → StandsAt (zoom - 1) (x - half) (y - half) n → StandsAt zoom x y (2 * each + n)
third_quarter zoom x y n half each some h q lex ley e =
    same_position zoom (zoom - 1) x y (2 * each + n) (x - half + 2 ^ (zoom - 1)) (y - half + 2 ^ (zoom - 1)) (4 ^ (zoom - 1) + (4 ^ (zoom - 1) + n))
    (omega arith) (omega arith) (omega arith) (omega arith) (stands_across (zoom - 1) (x - half) (y - half) n e)

pub fourth_quarter : (zoom x y n half each : ℕ) → 0 < zoom → half ≡ 2 ^ (zoom - 1) → each ≡ 4 ^ (zoom - 1) → x < 2 * half → y < half
    → StandsAt (zoom - 1) (half - 1 - y) (2 * half - 1 - x) n → StandsAt zoom x y (3 * each + n)
fourth_quarter zoom x y n half each some h q ltx lty e =
    same_position zoom (zoom - 1) x y (3 * each + n) (2 * 2 ^ (zoom - 1) - 1 - (2 * half - 1 - x)) (2 ^ (zoom - 1) - 1 - (half - 1 - y))
    (4 ^ (zoom - 1) + (4 ^ (zoom - 1) + (4 ^ (zoom - 1) + n))) (omega arith) (omega arith) (omega arith) (omega arith)
    (stands_flipped (zoom - 1) (half - 1 - y) (2 * half - 1 - x) n e)

-- ---- by a position and the size of a quarter

quarter_position : (position each q : ℕ) → position / each ≡ q → position ≡ q * each + position % each
quarter_position position each q e = sym (rw e at (div-add-mod' position each))

pub stands_start : (zoom position : ℕ) → zoom ≡ 0 → position < 4 ^ zoom → StandsAt zoom 0 0 position
unfolding curve
stands_start zoom position none lt =
    let small : position < 4 ^ 0 = rw none at lt in
    let e : position ≡ 0 = omega arith in
    rw (none, e) refl

pub from_first : (zoom x y position each : ℕ) → 0 < zoom → each ≡ 4 ^ (zoom - 1) → position / each ≡ 0 → StandsAt (zoom - 1) x y (position % each)
    → StandsAt zoom y x position
from_first zoom x y position each some q e h =
    same_position zoom (zoom - 1) y x position y x (position % each) (omega arith) refl refl (omega (arith, quarter_position position each 0 e))
    (stands_turned (zoom - 1) x y (position % each) h)

pub from_second : (zoom x y position half each : ℕ) → 0 < zoom → half ≡ 2 ^ (zoom - 1) → each ≡ 4 ^ (zoom - 1) → position / each ≡ 1
    → StandsAt (zoom - 1) x y (position % each) → StandsAt zoom x (y + half) position
from_second zoom x y position half each some s q e h =
    same_position zoom (zoom - 1) x (y + half) position x (y + 2 ^ (zoom - 1)) (4 ^ (zoom - 1) + position % each) (omega arith) refl (omega arith)
    (omega (arith, quarter_position position each 1 e)) (stands_below (zoom - 1) x y (position % each) h)

pub from_third : (zoom x y position half each : ℕ) → 0 < zoom → half ≡ 2 ^ (zoom - 1) → each ≡ 4 ^ (zoom - 1) → position / each ≡ 2
    → StandsAt (zoom - 1) x y (position % each) → StandsAt zoom (x + half) (y + half) position
from_third zoom x y position half each some s q e h =
    same_position zoom (zoom - 1) (x + half) (y + half) position (x + 2 ^ (zoom - 1)) (y + 2 ^ (zoom - 1)) (4 ^ (zoom - 1) + (4 ^ (zoom - 1) + position % each))
    (omega arith) (omega arith) (omega arith) (omega (arith, quarter_position position each 2 e)) (stands_across (zoom - 1) x y (position % each) h)

pub from_fourth : (zoom x y position half each : ℕ) → 0 < zoom → half ≡ 2 ^ (zoom - 1) → each ≡ 4 ^ (zoom - 1) → position / each ≡ 3
    → StandsAt (zoom - 1) x y (position % each) → StandsAt zoom (2 * half - 1 - y) (half - 1 - x) position
from_fourth zoom x y position half each some s q e h =
    same_position zoom (zoom - 1) (2 * half - 1 - y) (half - 1 - x) position (2 * 2 ^ (zoom - 1) - 1 - y) (2 ^ (zoom - 1) - 1 - x)
    (4 ^ (zoom - 1) + (4 ^ (zoom - 1) + (4 ^ (zoom - 1) + position % each))) (omega arith) (omega arith) (omega arith)
    (omega (arith, quarter_position position each 3 e)) (stands_flipped (zoom - 1) x y (position % each) h)
