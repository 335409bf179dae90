-- What an index has of a map, once a number is set or taken away.
use Rattle.std.proofs.Common.{◌≡◌, ◌==◌, ◌&&◌, ℕ, ◌+◌, ◌<◌, Bool, true, false, cond, List, [], ◌∷◌, map, Some, None, refl, sym, ap, subst, arith}
use mathlib.Core.Bool.{false≢true}
use Rattle.std.specs.Bool.{OnTrue}
use Rattle.std.specs.List.{sum_by, remove, Contains}
use Rattle.std.specs.List.Sorted.{IsPermutation}
use Rattle.std.specs.Ordering.{nat_cmp}
use Rattle.std.specs.BTreeMap.{insert_entry, is_at}
use Rattle.std.specs.Map.{lookup, remove_entry}
use Rattle.std.proofs.lemmas.Bool.Decides.{nat_tests}
use Rattle.std.proofs.lemmas.List.Elements.{Contains-append_right}
use Rattle.std.proofs.lemmas.List.Sorted.{IsPermutation-refl, IsPermutation-sym, IsPermutation-trans, IsPermutation-cons, IsPermutation-remove}
use Rattle.std.proofs.lemmas.List.Sorted.{sum_by-IsPermutation, sum_by_pushed, sum_by_popped}
use Rattle.std.proofs.lemmas.List.Sums.{sum_by-cons}
use Rattle.number_map.specs.Blocks.{Ascends}
use Rattle.box_index.specs.declared.entry.IndexEntry.{IndexEntry}
use Rattle.feature_model.specs.Data.{FeatureData}
use Rattle.feature_store.specs.Indexed.{index_entry, IsIndexed}
use Rattle.feature_store.specs.Store.{FeatureMap, feature_at, with_feature, without_feature}
use Rattle.feature_store.proofs.Totals.{total_without, total_with, removed_none}

-- ---- lists of the same entries

-- whether two entries are equal, as their `==` has it
abbrev pub same : IndexEntry → IndexEntry → Bool
same a b =
    a.id == b.id
    && ((a.span.bounds.x0 == b.span.bounds.x0
    && (a.span.bounds.x1 == b.span.bounds.x1 && (a.span.bounds.y0 == b.span.bounds.y0 && a.span.bounds.y1 == b.span.bounds.y1)))
    && (a.span.minzoom == b.span.minzoom && a.span.maxzoom == b.span.maxzoom))

same_is : (a b : IndexEntry) → same a b ≡ true → a ≡ b
same_is a b h =
    let id : a.id ≡ b.id = grind (arith, nat_tests) in
    let left : a.span.bounds.x0 ≡ b.span.bounds.x0 = grind (arith, nat_tests) in
    let right : a.span.bounds.x1 ≡ b.span.bounds.x1 = grind (arith, nat_tests) in
    let top : a.span.bounds.y0 ≡ b.span.bounds.y0 = grind (arith, nat_tests) in
    let bottom : a.span.bounds.y1 ≡ b.span.bounds.y1 = grind (arith, nat_tests) in
    let first : a.span.minzoom ≡ b.span.minzoom = grind (arith, nat_tests) in
    let last : a.span.maxzoom ≡ b.span.maxzoom = grind (arith, nat_tests) in
    λ i. record {
      id = id i;
      span = record { bounds = record { x0 = left i; x1 = right i; y0 = top i; y1 = bottom i }; minzoom = first i; maxzoom = last i };
    }

same_self : (a : IndexEntry) → same a a ≡ true
same_self a = grind (arith, nat_tests)

-- 1 where it is the entry
one_at : IndexEntry → IndexEntry → ℕ
one_at x e = cond (same e x) 1 0

one_at_self : (x : IndexEntry) → one_at x x ≡ 1
unfolding one_at
one_at_self x = ap (λ b. cond b 1 0) (same_self x)

contains_counted : (x : IndexEntry) (es : List IndexEntry) → 0 < sum_by (one_at x) es → Contains es x
unfolding one_at
contains_counted x [] some = absurd (omega arith)
contains_counted x (e ∷ es) some = by (same e x) (same_is e x) (subst (λ n. 0 < n) (sum_by-cons (one_at x) e es) some)
    (contains_counted x es)
  where
    by : (b : Bool) → (b ≡ true → e ≡ x) → 0 < cond b 1 0 + sum_by (one_at x) es → (0 < sum_by (one_at x) es → Contains es x) → Contains (e ∷ es) x
    by true is more rest = (0, omega arith, is refl)
    by false is more rest = Contains-append_right (e ∷ []) es x (rest (omega arith))

-- lists of which whatever is summed is the same have the same entries
same_entries : (xs ys : List IndexEntry) → ((f : IndexEntry → ℕ) → sum_by f xs ≡ sum_by f ys) → IsPermutation xs ys
same_entries [] [] sums = IsPermutation-refl []
same_entries [] (y ∷ ys) sums = absurd (omega (arith, sums (λ e. 1), sum_by-cons (λ (e : IndexEntry). 1) y ys))
same_entries (x ∷ xs) ys sums =
    let there = contains_counted x ys (omega (arith, sums (one_at x), sum_by-cons (one_at x) x xs, one_at_self x)) in
    let rest = remove ys there.0 in
    let parted : IsPermutation ys (x ∷ rest) = IsPermutation-remove ys there.0 x there.1 (sym there.2) in
    IsPermutation-trans (x ∷ xs) (x ∷ rest) ys
    (IsPermutation-cons x xs rest (same_entries xs rest (λ f. omega (arith, sums f, sum_by-cons f x xs, sum_by_popped f x ys rest parted))))
    (IsPermutation-sym ys (x ∷ rest) parted)

-- ---- sums over the entries of an index that has what a map has

module _ (f : IndexEntry → ℕ) where
  abbrev total : FeatureMap → ℕ
  total m = sum_by f (map index_entry m)

  total_is : (m : FeatureMap) → total m ≡ sum_by (λ e. f (index_entry e)) m
  total_is [] = refl
  total_is (e ∷ m) =
      omega (arith, sum_by-cons f (index_entry e) (map index_entry m), sum_by-cons (λ (d : ℕ × FeatureData). f (index_entry d)) e m, total_is m)

  entries_without : (m : FeatureMap) (id : ℕ) (v : FeatureData) → lookup (is_at (nat_cmp id)) m ≡ Some v
      → total m ≡ f (index_entry (id, v)) + total (remove_entry (is_at (nat_cmp id)) m)
  entries_without m id v h =
      omega (arith, total_is m, total_is (remove_entry (is_at (nat_cmp id)) m), total_without (λ e. f (index_entry e)) m id v h)

  entries_with : (m : FeatureMap) (id : ℕ) (v : FeatureData) → Ascends m
      → total (insert_entry nat_cmp m id v) ≡ f (index_entry (id, v)) + total (remove_entry (is_at (nat_cmp id)) m)
  entries_with m id v up =
      omega (
        arith,
        total_is (insert_entry nat_cmp m id v),
        total_is (remove_entry (is_at (nat_cmp id)) m),
        total_with (λ e. f (index_entry e)) m id v up,
      )

-- ---- the index

-- it has the entry of a number's feature
has_entry : (m : FeatureMap) (id : ℕ) (v : FeatureData) (es : List IndexEntry) → feature_at m id ≡ Some v → IsIndexed m es → Contains es (index_entry (id, v))
unfolding feature_at
has_entry m id v es found indexed =
    let x = index_entry (id, v) in
    let one = one_at x in
    contains_counted x es (omega (
      arith,
      sum_by-IsPermutation one (map index_entry m) es indexed,
      entries_without one m id v found,
      one_at_self x,
    ))

-- without it, it has what the map without the number has
taken_away : (m : FeatureMap) (id : ℕ) (v : FeatureData) (es rest : List IndexEntry) → feature_at m id ≡ Some v → IsIndexed m es
    → IsPermutation es (index_entry (id, v) ∷ rest) → IsIndexed (without_feature m id) rest
unfolding feature_at without_feature
taken_away m id v es rest found indexed taken =
    let x = index_entry (id, v) in
    same_entries (map index_entry (remove_entry (is_at (nat_cmp id)) m)) rest
    (λ f. omega (arith, sum_by-IsPermutation f (map index_entry m) es indexed, entries_without f m id v found, sum_by_popped f x es rest taken))

pub entry_gone : (m : FeatureMap) (id : ℕ) (v : FeatureData) (es rest : List IndexEntry) (e : IndexEntry) (b : Bool) → e ≡ index_entry (id, v)
    → (Contains es e → b ≡ true) → OnTrue b (IsPermutation es (e ∷ rest)) → feature_at m id ≡ Some v → IsIndexed m es → IsIndexed (without_feature m id) rest
entry_gone m id v es rest e true is there taken found indexed = taken_away m id v es rest found indexed (subst (λ x. IsPermutation es (x ∷ rest)) is taken)
entry_gone m id v es rest e false is there taken found indexed =
    absurd (false≢true (there (subst (Contains es) (sym is) (has_entry m id v es found indexed))))

pub nothing_taken : (m : FeatureMap) (id : ℕ) (es : List IndexEntry) → feature_at m id ≡ None → IsIndexed m es → IsIndexed (without_feature m id) es
unfolding feature_at without_feature
nothing_taken m id es none indexed = subst (λ n. IsIndexed n es) (sym (removed_none m id none)) indexed

-- with an entry in the place of another one
pub exchanged : (es mid new : List IndexEntry) (old entry : IndexEntry) (b : Bool) → (Contains es old → b ≡ true) → OnTrue b (IsPermutation es (old ∷ mid))
    → IsPermutation (entry ∷ mid) new → (rest : List IndexEntry) → IsPermutation es (old ∷ rest) → IsPermutation (entry ∷ rest) new
exchanged es mid new old entry true is taken pushed rest parted =
    same_entries (entry ∷ rest) new
    (λ f. omega (
      arith,
      sum_by-cons f entry rest,
      sum_by_popped f old es rest parted,
      sum_by_popped f old es mid taken,
      sum_by_pushed f entry mid new pushed,
    ))
exchanged es mid new old entry false is taken pushed rest parted =
    absurd (false≢true (is (contains_counted old es (omega (arith, sum_by_popped (one_at old) old es rest parted, one_at_self old)))))

pub left_there : (es : List IndexEntry) (old entry : IndexEntry) → true ≡ same old entry → (rest : List IndexEntry) → IsPermutation es (old ∷ rest)
    → IsPermutation (entry ∷ rest) es
left_there es old entry is rest parted =
    subst (λ x. IsPermutation (x ∷ rest) es) (same_is old entry (sym is)) (IsPermutation-sym es (old ∷ rest) parted)

-- with an entry more, it has what the map with the number's feature has
pub put_in : (m : FeatureMap) (id : ℕ) (v : FeatureData) (es more : List IndexEntry) → Ascends m → IsIndexed (without_feature m id) es
    → IsPermutation (index_entry (id, v) ∷ es) more → IsIndexed (with_feature m id v) more
unfolding with_feature without_feature
put_in m id v es more up indexed pushed =
    same_entries (map index_entry (insert_entry nat_cmp m id v)) more
    (λ f. omega (
      arith,
      entries_with f m id v up,
      sum_by-IsPermutation f (map index_entry (remove_entry (is_at (nat_cmp id)) m)) es indexed,
      sum_by_pushed f (index_entry (id, v)) es more pushed,
    ))

-- a number without a feature is given one
pub put_first : (m : FeatureMap) (id : ℕ) (f : FeatureData) (es more : List IndexEntry) → Ascends m → feature_at m id ≡ None → IsIndexed m es
    → IsPermutation (index_entry (id, f) ∷ es) more → IsIndexed (with_feature m id f) more
put_first m id f es more up none indexed pushed = put_in m id f es more up (nothing_taken m id es none indexed) pushed

-- a number's feature is replaced
pub put_over : (m : FeatureMap) (id : ℕ) (v f : FeatureData) (es more : List IndexEntry) → Ascends m → feature_at m id ≡ Some v → IsIndexed m es
    → ((rest : List IndexEntry) → IsPermutation es (index_entry (id, v) ∷ rest) → IsPermutation (index_entry (id, f) ∷ rest) more)
    → IsIndexed (with_feature m id f) more
put_over m id v f es more up found indexed pushed =
    let x = index_entry (id, v) in
    let there = has_entry m id v es found indexed in
    let rest = remove es there.0 in
    let parted : IsPermutation es (x ∷ rest) = IsPermutation-remove es there.0 x there.1 (sym there.2) in
    put_in m id f rest more up (taken_away m id v es rest found indexed parted) (pushed rest parted)
