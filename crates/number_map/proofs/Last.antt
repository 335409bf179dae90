-- The last number of entries in blocks.
use Rattle.std.proofs.Common.{◌≡◌, ℕ, zero, suc, ◌<◌, ◌≤◌, List, [], ◌∷◌, ◌++◌, length, get_or, Option, Some, None, arith}
use Rattle.std.proofs.Common.{refl, sym, ap, subst, ◌∙◌, append-nil}
use Rattle.std.specs.List.{last_or}
use Rattle.std.specs.Map.{keys_of}
use Rattle.number_map.specs.Blocks.{joined, last_number, Ascends, AreBelow}
use Rattle.number_map.proofs.Entries.{ascends_head, ascends_tail}

pub is_nothing : {X : Type 0} (xs : List X) → length xs ≤ 0 → xs ≡ []
is_nothing [] none = refl
is_nothing (x ∷ xs) none = absurd (omega (arith, none))

module _ {T : Type 0} where
  -- the number of the entry at the last index
  last_there : (es : List (ℕ × T)) (o : Option ℕ) (k : ℕ) (e : ℕ × T) → suc k ≡ length es → e ≡ get_or es k e → last_or o (keys_of es) ≡ Some e.0
  last_there [] o k e count is = absurd (omega (arith, count))
  last_there (x ∷ []) o zero e count is = ap (λ y. Some y.0) (sym is)
  last_there (x ∷ []) o (suc k) e count is = absurd (omega (arith, count))
  last_there (x ∷ y ∷ es) o zero e count is = absurd (omega (arith, count))
  last_there (x ∷ y ∷ es) o (suc k) e count is = last_there (y ∷ es) (Some x.0) k e (omega (arith, count)) is

  pub last_entry : (es : List (ℕ × T)) (k : ℕ) (e : ℕ × T) → suc k ≡ length es → e ≡ get_or es k e → Some e.0 ≡ last_number es
  last_entry es k e count is = sym (last_there es None k e count is)

  -- the last number of two lists is that of the second, if it has entries
  last_append : (xs ys : List (ℕ × T)) (o : Option ℕ) → last_or o (keys_of (xs ++ ys)) ≡ last_or (last_or o (keys_of xs)) (keys_of ys)
  last_append [] ys o = refl
  last_append (x ∷ xs) ys o = last_append xs ys (Some x.0)

  last_filled : (es : List (ℕ × T)) (o : Option ℕ) → 0 < length es → last_or o (keys_of es) ≡ last_number es
  last_filled [] o some = absurd (omega (arith, some))
  last_filled (e ∷ es) o some = refl

  last_joined : (bs : List (List (ℕ × T))) (o : Option ℕ) (k : ℕ) (b : List (ℕ × T)) → suc k ≡ length bs → b ≡ get_or bs k b → 0 < length b
      → last_or o (keys_of (joined bs)) ≡ last_number b
  last_joined [] o k b count is some = absurd (omega (arith, count))
  last_joined (c ∷ []) o zero b count is some =
      ap (λ es. last_or o (keys_of es)) (append-nil c ∙ sym is) ∙ last_filled b o some
  last_joined (c ∷ []) o (suc k) b count is some = absurd (omega (arith, count))
  last_joined (c ∷ d ∷ bs) o zero b count is some = absurd (omega (arith, count))
  last_joined (c ∷ d ∷ bs) o (suc k) b count is some =
      last_append c (joined (d ∷ bs)) o ∙ last_joined (d ∷ bs) (last_or o (keys_of c)) k b (omega (arith, count)) is some

  -- the last number of all blocks is that of the last block
  pub last_of_all : (bs : List (List (ℕ × T))) (k : ℕ) (b : List (ℕ × T)) → suc k ≡ length bs → b ≡ get_or bs k b → 0 < length b
      → last_number b ≡ last_number (joined bs)
  last_of_all bs k b count is some = sym (last_joined bs None k b count is some)

  -- entries whose last number is below this one are all below it
  pub below_after_last : (es : List (ℕ × T)) (k : ℕ) (e : ℕ × T) (n : ℕ) → Ascends es → suc k ≡ length es → e ≡ get_or es k e → e.0 < n → AreBelow n es
  below_after_last [] k e n s count is lt = absurd (omega (arith, count))
  below_after_last (x ∷ []) zero e n s count is lt = (subst (λ y. y.0 < n) is lt, tt)
  below_after_last (x ∷ []) (suc k) e n s count is lt = absurd (omega (arith, count))
  below_after_last (x ∷ y ∷ es) zero e n s count is lt = absurd (omega (arith, count))
  below_after_last (x ∷ y ∷ es) (suc k) e n s count is lt =
      let rest = below_after_last (y ∷ es) k e n (ascends_tail x (y ∷ es) s) (omega (arith, count)) is lt in
      (omega (arith, (ascends_head x (y ∷ es) s).0, rest.0), rest)
