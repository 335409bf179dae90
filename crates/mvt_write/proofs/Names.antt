-- Layers whose names ascend have different names.
use Rattle.std.proofs.Common.{◌≡◌, ℕ, Bool, true, false, cond, List, [], ◌∷◌, ◌++◌, map, refl, sym, ap, ◌∙◌}
use mathlib.Core.Bool.{false≢true}
use Rattle.std.specs.List.{AllByRecursion}
use Rattle.std.specs.List.Sorted.{IsStrictlySortedBy}
use Rattle.std.specs.Ordering.{nat_cmp, is_eq}
use Rattle.std.specs.declared.cmp.Ordering.TheVariants.{Less}
use Rattle.std.specs.Cmp.Lexicographic.{slice_cmp}
use Rattle.std.specs.Str.{bytes_eq}
use Rattle.std.proofs.lemmas.Map.Text.{is_eq-slice_cmp}
use Rattle.mvt_layer.specs.Tile.{LayerView}
use Rattle.mvt_layer.specs.Reading.{has_name}
use Rattle.mvt_layer.specs.Reads.{AreNamed}

abbrev names_of : List LayerView → List (List ℕ)
names_of ls = map (λ l. l.name) ls

-- none of these names is the name of a layer before
abbrev AreNew : List LayerView → List (List ℕ) → Type 0
AreNew before names = AllByRecursion (λ n. has_name before n ≡ false) names

new_to_none : (names : List (List ℕ)) → AreNew [] names
new_to_none [] = tt
new_to_none (n ∷ names) = (refl, new_to_none names)

-- one layer more before, of another name
still_unnamed : (before : List LayerView) (l : LayerView) (n : List ℕ) → has_name before n ≡ false → bytes_eq l.name n ≡ false
    → has_name (before ++ l ∷ []) n ≡ false
still_unnamed [] l n h differs = ap (λ b. cond b true false) differs
still_unnamed (k ∷ before) l n h differs = by (bytes_eq k.name n) h (λ is. still_unnamed before l n is differs)
  where
    by : (b : Bool) → cond b true (has_name before n) ≡ false → (has_name before n ≡ false → has_name (before ++ l ∷ []) n ≡ false)
        → cond b true (has_name (before ++ l ∷ []) n) ≡ false
    by true is rest = absurd (false≢true (sym is))
    by false is rest = rest is

still_new : (before : List LayerView) (l : LayerView) (names : List (List ℕ)) → AreNew before names
    → AllByRecursion (λ n. slice_cmp nat_cmp l.name n ≡ Less) names
    → AreNew (before ++ l ∷ []) names
still_new before l [] new above = tt
still_new before l (n ∷ names) new above =
    (still_unnamed before l n new.0 (sym (is_eq-slice_cmp l.name n) ∙ ap is_eq above.0), still_new before l names new.1 above.1)

named_behind : (before ls : List LayerView) → IsStrictlySortedBy (slice_cmp nat_cmp) (names_of ls) → AreNew before (names_of ls) → AreNamed before ls
unfolding IsStrictlySortedBy
named_behind before [] s new = tt
named_behind before (l ∷ ls) s new = (new.0, named_behind (before ++ l ∷ []) ls s.1 (still_new before l (names_of ls) new.1 s.0))

pub ascending_differ : (ls : List LayerView) → IsStrictlySortedBy (slice_cmp nat_cmp) (map (λ l. l.name) ls) → AreNamed [] ls
ascending_differ ls s = named_behind [] ls s (new_to_none (names_of ls))
