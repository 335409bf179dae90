-- The lists of a geometry, as the loops read them.
use Rattle.std.proofs.Common.{◌≡◌, ℕ, ◌+◌, ◌<◌, ◌≤◌, true, false, List, [], ◌∷◌, length, get_or}
use Rattle.std.proofs.Common.{drop, None, Ok, Err, refl, sym, ap, ◌∙◌, arith, append-nil}
use Rattle.std.proofs.lemmas.List.{at_drop_all, at_drop_more}
use Rattle.serde_json.specs.Data.{Data}
use Rattle.serde_json.specs.View.{view, items_view}
use Rattle.serde_json.specs.declared.value.Value.{Value}
use Rattle.serde_json.proofs.Views.{items_len-items_view}
use Rattle.feature_model.specs.Limits.{is_count}
use Rattle.reader.specs.Reading.{Read, ◌>>=◌}
use Rattle.feature_model.specs.declared.fault.EditFault.{EditFault}
use Rattle.feature_model.specs.declared.fault.EditFault.TheVariants as faults
use Rattle.edit_json.specs.Lists.{pair_at, each, list_of}
use Rattle.edit_json.proofs.SoFar.{goes_on}

-- a list of another length than two is no point
pub pair_at-short : (vs : List Value) → length vs < 2 → pair_at (items_view vs) ≡ None
unfolding pair_at
pair_at-short [] h = refl
pair_at-short (a ∷ []) h = refl
pair_at-short (a ∷ b ∷ vs) h = absurd (omega arith)

pub pair_at-long : (vs : List Value) → 3 ≤ length vs → pair_at (items_view vs) ≡ None
unfolding pair_at
pair_at-long [] h = absurd (omega arith)
pair_at-long (a ∷ []) h = absurd (omega arith)
pair_at-long (a ∷ b ∷ []) h = absurd (omega arith)
pair_at-long (a ∷ b ∷ c ∷ vs) h = refl

module _ {A : Type 0} (one : Data → Read EditFault A) where
  pub list_of-refused : (least : ℕ) (vs : List Value) (fault : EditFault) → (fault ≡ faults.Geometry) × (is_count least (length vs) ≡ false)
      → list_of least one (items_view vs) ≡ Err fault
  unfolding list_of
  list_of-refused least vs fault h = rw (items_len-items_view vs, h.1, h.0) refl

  pub list_of-counted : (least : ℕ) (vs : List Value) → is_count least (length vs) ≡ true → list_of least one (items_view vs) ≡ each one (items_view vs)
  unfolding list_of
  list_of-counted least vs h = rw (items_len-items_view vs, h) refl

  -- what is read so far with the values that are left
  abbrev pub rest_gives : List A → List Value → Read EditFault (List A)
  rest_gives xs vs = goes_on xs (each one (items_view vs))

  pub rest_gives-end : (xs : List A) (vs : List Value) (i : ℕ) → length vs ≤ i → rest_gives xs (drop i vs) ≡ Ok xs
  unfolding each
  rest_gives-end xs vs i h = at_drop_all (rest_gives xs) vs i h ∙ ap (λ ys. Ok ys) (append-nil xs)

  -- a value that is refused
  pub rest_gives-fault : (xs : List A) (vs : List Value) (i : ℕ) (v : Value) (fault : EditFault) (whole : Read EditFault (List A))
      → i < length vs → v ≡ get_or vs i v → one (view v) ≡ Err fault → rest_gives xs (drop i vs) ≡ whole → whole ≡ Err fault
  unfolding each
  rest_gives-fault xs vs i v fault whole l is met so_far =
      let left = items_view (drop (i + 1) vs) in
      sym so_far ∙ at_drop_more (rest_gives xs) vs i v l ∙ ap (λ w. rest_gives xs (w ∷ drop (i + 1) vs)) (sym is)
      ∙ ap (λ first. goes_on xs (first >>= (λ x. each one left >>= (λ ys. Ok (x ∷ ys))))) met
