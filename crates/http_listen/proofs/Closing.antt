-- The connections are closed one after the other, by their keys.
use Rattle.std.proofs.Common.{◌≡◌, ◌≢◌, ℕ, ◌+◌, ◌<◌, ◌≤◌, Bool, true, false, None, ap, subst, ◌∙◌, inl, inr, ⊎_elim, lt_irrefl, arith}
use Rattle.std.proofs.Common.{eq-or-lt_of_le, le_trans, refl}
use Rattle.std.proofs.lemmas.Bool.{eqb-true, eqb-false, cases_lt}
use Rattle.std.specs.Prelude.{◌⊎◌, nat_eq}
use Rattle.std.specs.declared.option.Option.{Option}

module _ {T : Type 0} (old new : ℕ → Option T) (at : ℕ) (none : new at ≡ None) (others : (other : ℕ) → other ≢ at → new other ≡ old other) where
  below : ((key : ℕ) → key < at → old key ≡ None) → (key : ℕ) → (key ≡ at) ⊎ (key < at) → new key ≡ None
  below before key (inl e) = ap new e ∙ none
  below before key (inr lt) = others key (λ e. lt_irrefl at (subst (λ (n : ℕ). n < at) e lt)) ∙ before key lt

  -- None is left up to this key.
  pub closed_below : ((key : ℕ) → key < at → old key ≡ None) → (key : ℕ) → key < at + 1 → new key ≡ None
  closed_below before key lt = below before key (eq-or-lt_of_le (omega (arith, lt)))

  stays_by : (first : ℕ → Option T) → ((key : ℕ) → first key ≡ None → old key ≡ None) → (key : ℕ) → first key ≡ None
      → (b : Bool) → nat_eq key at ≡ b → new key ≡ None
  stays_by first before key e true is = ap new (eqb-true key at is) ∙ none
  stays_by first before key e false is = others key (eqb-false key at is) ∙ before key e

  -- None comes to a key that had none.
  pub closed_stays : (first : ℕ → Option T) → ((key : ℕ) → first key ≡ None → old key ≡ None) → (key : ℕ) → first key ≡ None → new key ≡ None
  closed_stays first before key e = stays_by first before key e (nat_eq key at) refl

-- None is left.
pub closed_all : {T : Type 0} (first last : ℕ → Option T) (at bound : ℕ) → bound ≤ at → ((key : ℕ) → bound ≤ key → first key ≡ None)
    → ((key : ℕ) → key < at → last key ≡ None) → ((key : ℕ) → first key ≡ None → last key ≡ None) → (key : ℕ) → last key ≡ None
closed_all first last at bound le above below stays key =
    ⊎_elim (λ lt. below key lt) (λ far. stays key (above key (le_trans le far))) (cases_lt key at)
