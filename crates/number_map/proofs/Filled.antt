-- Blocks that have entries.
use Rattle.std.proofs.Common.{◌≡◌, ℕ, ◌+◌, ◌<◌, List, [], ◌∷◌, ◌++◌, length, set, take, drop, sym, ap, subst, inl, inr, arith}
use Rattle.std.specs.List.{insert, remove}
use Rattle.std.proofs.lemmas.Bool.{cases_lt}
use Rattle.std.proofs.lemmas.List.{length-append, get_or-set_other, length-set}
use Rattle.std.proofs.lemmas.List.Edits.{length-remove, get_or-remove_below, get_or-remove_above}
use Rattle.std.proofs.lemmas.List.Elements.{All-nil, All-append, All-cons, All-take, All-drop, All-set}
use Rattle.number_map.specs.Blocks.{AreFilled, AreFilledBut}

module _ {T : Type 0} where
  -- a block has entries
  abbrev pub IsFilled : List (ℕ × T) → Type 0
  IsFilled es = 0 < length es

  -- a block replaced
  pub filled_set : (bs : List (List (ℕ × T))) (i : ℕ) (b : List (ℕ × T)) → IsFilled b → AreFilled bs → AreFilled (set bs i b)
  filled_set bs i b some all = All-set IsFilled bs i b some all

  -- a block more
  pub filled_insert : (bs : List (List (ℕ × T))) (i : ℕ) (b : List (ℕ × T)) → IsFilled b → AreFilled bs → AreFilled (insert bs i b)
  filled_insert bs i b some all =
      All-append IsFilled (take i bs) (b ∷ drop i bs) (All-take IsFilled i bs all) (All-cons IsFilled b (drop i bs) some (All-drop IsFilled i bs all))

  -- a block more at the end
  pub filled_pushed : (bs : List (List (ℕ × T))) (b : List (ℕ × T)) → IsFilled b → AreFilled bs → AreFilled (bs ++ b ∷ [])
  filled_pushed bs b some all = All-append IsFilled bs (b ∷ []) all (All-cons IsFilled b [] some (All-nil IsFilled))

  -- a block less
  pub filled_removed : (bs : List (List (ℕ × T))) (i : ℕ) → AreFilled bs → AreFilled (take i bs ++ drop (i + 1) bs)
  filled_removed bs i all = All-append IsFilled (take i bs) (drop (i + 1) bs) (All-take IsFilled i bs all) (All-drop IsFilled (i + 1) bs all)

  -- entries of two blocks in one
  pub filled_joined : (b c new : List (ℕ × T)) → IsFilled b → new ≡ b ++ c → IsFilled new
  filled_joined b c new some is = omega (arith, some, ap length is, length-append b c)

  -- a block replaced, by one that may have no entries
  pub filled_but_set : (bs : List (List (ℕ × T))) (i : ℕ) (b : List (ℕ × T)) → AreFilled bs → AreFilledBut i (set bs i b)
  filled_but_set bs i b all k d lt other =
      subst IsFilled (sym (get_or-set_other bs i k b d other)) (all k d (omega (arith, length-set bs i b)))

  -- that block taken out
  pub filled_without : (bs : List (List (ℕ × T))) (i : ℕ) → i < length bs → AreFilledBut i bs → AreFilled (remove bs i)
  filled_without bs i lt all k d within = elim (cases_lt k i) [
    | inl below ↦ subst IsFilled (sym (get_or-remove_below bs i d k below lt)) (all k d (omega arith) (λ same. omega arith))
    | inr above ↦ subst IsFilled (sym (get_or-remove_above bs i d k above lt))
        (all (k + 1) d (omega (arith, length-remove bs i lt)) (λ same. omega arith))
  ]
