-- The first entry with a number or a greater one.
use Rattle.std.proofs.Common.{◌≡◌, ℕ, zero, suc, ◌+◌, ◌<◌, ◌≤◌, cond, true, false, List, [], ◌∷◌, ◌++◌, length, get_or, take, drop, Option, Some, None}
use Rattle.std.proofs.Common.{refl, sym, ap, ◌∙◌, inl, inr, arith}
use Rattle.std.specs.Prelude.{nat_le, slice_get, IfSome, MatchOption}
use Rattle.std.specs.Option.{option_or, option_copied}
use Rattle.std.specs.Borrow.{Bor}
use Rattle.std.proofs.lemmas.Bool.{cases_lt}
use Rattle.std.proofs.lemmas.Bool.Decides.{nat_tests}
use Rattle.number_map.specs.Blocks.{joined, first_from, AreBelow, AreAbove, IsHome}
use Rattle.number_map.specs.Positions.{HasAt, IsGapFor}
use Rattle.number_map.proofs.Joined.{joined_at}

is_le : (a b : ℕ) → a ≤ b → nat_le a b ≡ true
is_le a b h = grind (arith, nat_tests)

is_more : (a b : ℕ) → b < a → nat_le a b ≡ false
is_more a b h = grind (arith, nat_tests)

-- ---- items of a list

past_end : {X : Type 0} (xs : List X) (i : ℕ) → length xs ≤ i → slice_get xs i ≡ None
past_end [] i past = refl
past_end (x ∷ xs) zero past = absurd (omega (arith, past))
past_end (x ∷ xs) (suc i) past = past_end xs i (omega (arith, past))

there : {X : Type 0} (xs : List X) (i : ℕ) (d : X) → i < length xs → slice_get xs i ≡ Some (get_or xs i d)
there [] i d lt = absurd (omega (arith, lt))
there (x ∷ xs) zero d lt = refl
there (x ∷ xs) (suc i) d lt = there xs i d (omega (arith, lt))

-- a reference to the item with this index, where there is one
pub item_there : {X : Type 0} (xs : List X) (i : ℕ) (r : Option (Bor X)) (Is : X → Type 0) → IfSome r (λ x. x.now ≡ get_or xs i x.now)
    → MatchOption r (length xs ≤ i) (λ x. (i < length xs) × Is x.now) → option_copied r ≡ slice_get xs i
item_there xs i None Is same within = sym (past_end xs i within)
item_there xs i (Some x) Is same within = ap Some same ∙ sym (there xs i x.now within.0)

module _ {T : Type 0} where
  -- one step of the search
  found_here : (n : ℕ) (e : ℕ × T) (es : List (ℕ × T)) → n ≤ e.0 → first_from n (e ∷ es) ≡ Some e
  found_here n e es h = ap (λ b. cond b (Some e) (first_from n es)) (is_le n e.0 h)

  found_on : (n : ℕ) (e : ℕ × T) (es : List (ℕ × T)) → e.0 < n → first_from n (e ∷ es) ≡ first_from n es
  found_on n e es h = ap (λ b. cond b (Some e) (first_from n es)) (is_more n e.0 h)

  -- it is at the index of the number, or at the index where the number would be inserted
  pub from_found : (es : List (ℕ × T)) (n i : ℕ) → HasAt es n i → slice_get es i ≡ first_from n es
  from_found [] n i h = absurd h
  from_found (e ∷ es) n zero h = sym (found_here n e es (omega (arith, h)))
  from_found (e ∷ es) n (suc i) h = from_found es n i h.1 ∙ sym (found_on n e es h.0)

  pub from_gap : (es : List (ℕ × T)) (n i : ℕ) → IsGapFor es n i → slice_get es i ≡ first_from n es
  from_gap [] n zero h = refl
  from_gap [] n (suc i) h = absurd h
  from_gap (e ∷ es) n zero h = sym (found_here n e es (omega (arith, h)))
  from_gap (e ∷ es) n (suc i) h = from_gap es n i h.1 ∙ sym (found_on n e es h.0)

  -- ---- after lower entries, and before higher ones

  from_after : (n : ℕ) (xs ys : List (ℕ × T)) → AreBelow n xs → first_from n (xs ++ ys) ≡ first_from n ys
  from_after n [] ys b = refl
  from_after n (e ∷ xs) ys b = found_on n e (xs ++ ys) b.0 ∙ from_after n xs ys b.1

  from_above : (n : ℕ) (es : List (ℕ × T)) → AreAbove n es → first_from n es ≡ slice_get es 0
  from_above n [] a = refl
  from_above n (e ∷ es) a = found_here n e es (omega (arith, a.0))

  from_both : (n : ℕ) (xs ys : List (ℕ × T)) → first_from n (xs ++ ys) ≡ option_or (first_from n xs) (first_from n ys)
  from_both n [] ys = refl
  from_both n (e ∷ xs) ys = elim (cases_lt e.0 n) [
    | inl lt ↦ found_on n e (xs ++ ys) lt ∙ from_both n xs ys ∙ ap (λ o. option_or o (first_from n ys)) (sym (found_on n e xs lt))
    | inr ge ↦ found_here n e (xs ++ ys) ge ∙ ap (λ o. option_or o (first_from n ys)) (sym (found_here n e xs ge))
  ]

  -- ---- in blocks

  module _ (bs : List (List (ℕ × T))) (n i : ℕ) (home : IsHome bs n i) where
    -- it is in the block where the number belongs, or the first one after that
    pub from_home : (b : List (ℕ × T)) → i < length bs → b ≡ get_or bs i b
        → first_from n (joined bs) ≡ option_or (first_from n b) (slice_get (joined (drop (i + 1) bs)) 0)
    from_home b lt is =
        ap (first_from n) (joined_at bs i b lt)
        ∙ from_after n (joined (take i bs)) (get_or bs i b ++ joined (drop (i + 1) bs)) home.below
        ∙ from_both n (get_or bs i b) (joined (drop (i + 1) bs))
        ∙ ap (λ o. option_or (first_from n (get_or bs i b)) o) (from_above n (joined (drop (i + 1) bs)) home.above)
        ∙ ap (λ c. option_or (first_from n c) (slice_get (joined (drop (i + 1) bs)) 0)) (sym is)
