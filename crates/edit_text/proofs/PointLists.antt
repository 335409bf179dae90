-- A list of points is whole where its bytes are there, and else cut.
use Rattle.std.proofs.Common.{◌≡◌, ◌≢◌, ℕ, zero, suc, ◌*◌, ◌<◌, ◌≤◌, inl, inr, Bool, true, false, cond, List}
use Rattle.std.proofs.Common.{[], ◌∷◌, ◌++◌, length, take, drop, Ok, Err, refl, sym, ap, subst, ◌∙◌, arith}
use Rattle.std.specs.Prelude.{IsOk}
use Rattle.std.specs.Int.{w32, from_le_bytes}
use Rattle.std.proofs.lemmas.Bool.{cases_lt, le-ltb, lt-ltb}
use Rattle.std.proofs.lemmas.List.{length-drop}
use Rattle.reader.specs.Reading.{repeated}
use Rattle.reader.proofs.Steps.{same_fault, ok_never}
use Rattle.feature_model.specs.declared.feature.World.{World}
use Rattle.edit_text.specs.declared.fault.TextFault.TheVariants.{Cut, Bad, Memory}
use Rattle.edit_text.specs.Reading.{Part, then_read, read_as, read_if, front_at, two_at, four_at}
use Rattle.edit_text.specs.Reading.{count_at, point_at, line_at, many_at}
use Rattle.edit_text.proofs.Many.{goes_on}
use Rattle.edit_text.proofs.Faults.{cut_is_not_memory, as_no_memory, if_no_memory, then_no_memory, front_no_memory}

-- the number in the first four bytes
four : List ℕ → ℕ
four bytes = from_le_bytes w32 (take 4 bytes)

four_whole : (bytes : List ℕ) → 4 ≤ length bytes → four_at bytes ≡ Ok (four bytes, drop 4 bytes)
unfolding four_at front_at four
four_whole bytes l =
    let front : Part (List ℕ) = Ok (take 4 bytes, drop 4 bytes) in
    ap (λ b. read_as (from_le_bytes w32) (cond b (Err Cut) front)) (le-ltb (length bytes) 4 l)

four_cut : (bytes : List ℕ) → length bytes < 4 → four_at bytes ≡ Err Cut
unfolding four_at front_at
four_cut bytes l =
    let front : Part (List ℕ) = Ok (take 4 bytes, drop 4 bytes) in
    ap (λ b. read_as (from_le_bytes w32) (cond b (Err Cut) front)) (lt-ltb (length bytes) 4 l)

-- the point in the first eight bytes
pub first_point : List ℕ → World
first_point bytes = record { x = four bytes; y = four (drop 4 bytes) }

point_whole : (bytes : List ℕ) → 8 ≤ length bytes → point_at bytes ≡ Ok (first_point bytes, drop 4 (drop 4 bytes))
unfolding point_at first_point
point_whole bytes l =
    let behind = four_whole (drop 4 bytes) (omega (arith, length-drop 4 bytes)) in
    ap (λ p. then_read p (λ x rest. read_as (λ y. record { x = x; y = y }) (four_at rest))) (four_whole bytes (omega arith))
    ∙ ap (read_as (λ y. record { x = four bytes; y = y })) behind

point_cut : (bytes : List ℕ) → length bytes < 8 → point_at bytes ≡ Err Cut
unfolding point_at
point_cut bytes l = elim (cases_lt (length bytes) 4) [
  | inl few ↦ ap (λ p. then_read p (λ x rest. read_as (λ y. record { x = x; y = y }) (four_at rest))) (four_cut bytes few)
  | inr some ↦
      ap (λ p. then_read p (λ x rest. read_as (λ y. record { x = x; y = y }) (four_at rest))) (four_whole bytes some)
      ∙ ap (read_as (λ y. record { x = four bytes; y = y })) (four_cut (drop 4 bytes) (omega (arith, length-drop 4 bytes)))
]

pub many_more : (count : ℕ) (done : List World) (bytes : List ℕ) → 8 ≤ length bytes
    → many_at (λ _. point_at) (suc count) done bytes ≡ many_at (λ _. point_at) count (done ++ first_point bytes ∷ []) (drop 4 (drop 4 bytes))
unfolding repeated
many_more count done bytes l = ap (goes_on (λ _. point_at) count done) (point_whole bytes l)

many_none : (count : ℕ) (done : List World) (bytes : List ℕ) → length bytes < 8 → many_at (λ _. point_at) (suc count) done bytes ≡ Err Cut
unfolding repeated
many_none count done bytes l = ap (goes_on (λ _. point_at) count done) (point_cut bytes l)

-- the bytes of this number of points are there
pub points_whole : (count : ℕ) (done : List World) (bytes : List ℕ) → 8 * count ≤ length bytes → IsOk (many_at (λ _. point_at) count done bytes)
unfolding repeated
points_whole zero done bytes l = refl
points_whole (suc count) done bytes l =
    subst IsOk (sym (many_more count done bytes (omega arith)))
    (points_whole count (done ++ first_point bytes ∷ []) (drop 4 (drop 4 bytes)) (omega (arith, length-drop 4 bytes, length-drop 4 (drop 4 bytes))))

-- they are not all there
pub points_cut : (count : ℕ) (done : List World) (bytes : List ℕ) → length bytes < 8 * count → many_at (λ _. point_at) count done bytes ≡ Err Cut
points_cut zero done bytes l = absurd (omega arith)
points_cut (suc count) done bytes l = elim (cases_lt (length bytes) 8) [
  | inl few ↦ many_none count done bytes few
  | inr some ↦
      many_more count done bytes some
      ∙ points_cut count (done ++ first_point bytes ∷ []) (drop 4 (drop 4 bytes)) (omega (arith, length-drop 4 bytes, length-drop 4 (drop 4 bytes)))
]

-- ---- lines take memory only where they are whole

points_no_memory : (count : ℕ) (bytes : List ℕ) → many_at (λ _. point_at) count [] bytes ≢ Err Memory
points_no_memory count bytes is = elim (cases_lt (length bytes) (8 * count)) [
  | inl few ↦ cut_is_not_memory (same_fault Cut Memory (sym (points_cut count [] bytes few) ∙ is))
  | inr some ↦ ok_never Memory _ (points_whole count [] bytes some) is
]

pub line_no_memory : (least : ℕ) (bytes : List ℕ) → line_at least bytes ≢ Err Memory
unfolding line_at two_at
line_no_memory least bytes =
    then_no_memory _ _ (if_no_memory _ _ (as_no_memory _ _ (front_no_memory 2 bytes))) (λ count rest. points_no_memory count rest)

-- ---- what passes a test

if_by : {A : Type 0} (test : A → Bool) (x y : A × List ℕ) (b : Bool) → test x.0 ≡ b → ◌≡◌ {A = Part A} (cond b (Ok x) (Err Bad)) (Ok y)
    → (x ≡ y) × (test x.0 ≡ true)
if_by test x y true passes is = ((cc), passes)
if_by test x y false passes is = absurd (cc)

pub if_ok : {A : Type 0} (test : A → Bool) (part : Part A) (y : A × List ℕ) → read_if test part ≡ Ok y → (part ≡ Ok y) × (test y.0 ≡ true)
if_ok {A} test (Ok x) y is =
    let both = if_by test x y (test x.0) refl is in
    ((λ i. Ok (both.0 i)), subst (λ (z : A × List ℕ). test z.0 ≡ true) both.0 both.1)
if_ok test (Err fault) y is = absurd (cc)

pub count_no_memory : (least : ℕ) (bytes : List ℕ) → count_at least bytes ≢ Err Memory
unfolding two_at
count_no_memory least bytes = if_no_memory _ _ (as_no_memory _ _ (front_no_memory 2 bytes))
