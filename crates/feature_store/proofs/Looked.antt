-- The features of a map in a box, found by a look at each, or by the index.
use Rattle.std.proofs.Common.{◌≡◌, ℕ, ◌+◌, ◌<◌, ◌≤◌, Bool, true, false, cond, List, [], ◌∷◌, ◌++◌, length, map, Option, Some, None, IsSome}
use Rattle.std.proofs.Common.{inl, inr, refl, sym, ap, subst, ◌∙◌, append_assoc, append-nil, arith}
use Rattle.std.specs.Prelude.{nat_le}
use Rattle.std.specs.List.{filter}
use Rattle.std.specs.List.Sorted.{IsPermutation, IsNonDecreasingBy}
use Rattle.std.specs.Map.{keys_of}
use Rattle.std.specs.Option.{is_some, option_map}
use Rattle.std.proofs.lemmas.Bool.{cases_lt, false≢true}
use Rattle.std.proofs.lemmas.Bool.Decides.{nat_tests}
use Rattle.std.proofs.lemmas.List.{map-append}
use Rattle.std.proofs.lemmas.List.Elements.{filter-append}
use Rattle.box_index.specs.Met.{ids_met}
use Rattle.box_index.specs.declared.entry.IndexEntry.{IndexEntry}
use Rattle.feature_model.specs.Data.{FeatureData}
use Rattle.feature_model.specs.declared.feature.WorldBox.{WorldBox}
use Rattle.number_map.specs.Blocks.{Ascends, AreAbove, AreBelow, first_from}
use Rattle.number_map.proofs.Entries.{ascends_head, ascends_tail, lowered}
use Rattle.feature_store.specs.InBox.{AreNext, IsInBox, in_box, is_in_box}
use Rattle.feature_store.specs.Indexed.{index_entry, IsIndexed}
use Rattle.feature_store.specs.Store.{FeatureMap, IsMap, feature_from}
use Rattle.feature_store.specs.declared.in_box.InBox.{InBox}
use Rattle.feature_store.specs.declared.in_box.TheConstants.{BOX_LOOKS}
use Rattle.feature_store.proofs.Near.{ids_rise}

-- ---- by a look at each

-- what is still to come, from here on, completes these features
abbrev pub Continues : (m : FeatureMap) → (id : ℕ) → (done : FeatureMap) → (from : ℕ) → Type 0
Continues m id done from = (es : FeatureMap) (next : Option (ℕ × FeatureData)) → AreNext m from es next → AreNext m id (done ++ es) next

pub continues_more : (m : FeatureMap) (id from : ℕ) (done : FeatureMap) (e : ℕ × FeatureData) → feature_from m from ≡ Some e
    → Continues m id done from → Continues m id (done ++ e ∷ []) (e.0 + 1)
continues_more m id from done e is continues es next are =
    subst (λ (l : FeatureMap). AreNext m id l next) (sym (append_assoc done (e ∷ []) es)) (continues (e ∷ es) next (is, are))

pub numbers_more : (bounds : WorldBox) (done : FeatureMap) (e : ℕ × FeatureData) (old new : List ℕ) → old ≡ keys_of (in_box bounds done)
    → new ≡ old ++ keys_of (in_box bounds (e ∷ [])) → new ≡ keys_of (in_box bounds (done ++ e ∷ []))
numbers_more bounds done e old new so_far is =
    is ∙ ap (λ (ns : List ℕ). ns ++ keys_of (in_box bounds (e ∷ []))) so_far
    ∙ sym (map-append (λ (d : ℕ × FeatureData). d.0) (in_box bounds done) (in_box bounds (e ∷ [])))
    ∙ ap (λ (l : FeatureMap). keys_of l) (sym (filter-append (is_in_box bounds) done (e ∷ [])))

-- these are all that are looked at
pub found_end : (m : FeatureMap) (bounds : WorldBox) (id from : ℕ) (done : FeatureMap) (next : Option (ℕ × FeatureData)) (f : InBox)
    → Continues m id done from → feature_from m from ≡ next → f.numbers.items ≡ keys_of (in_box bounds done) → f.next ≡ option_map (λ e. e.0) next
    → (IsSome f.next → BOX_LOOKS ≤ length done) → IsInBox m bounds id f
found_end m bounds id from done next f continues is numbers next_is many = record {
  features = done;
  next = next;
  are_next = subst (λ (l : FeatureMap). AreNext m id l next) (append-nil done) (continues [] next is);
  numbers = numbers;
  next_is = next_is;
  many = many;
}

-- ---- by the index

is_le : (a b : ℕ) → a ≤ b → nat_le a b ≡ true
is_le a b h = grind (arith, nat_tests)

is_more : (a b : ℕ) → b < a → nat_le a b ≡ false
is_more a b h = grind (arith, nat_tests)

-- the features with this number or a greater one
abbrev from_on : ℕ → FeatureMap → FeatureMap
from_on n m = filter (λ e. nat_le n e.0) m

with_higher : (n : ℕ) (e : ℕ × FeatureData) (m : FeatureMap) → n ≤ e.0 → from_on n (e ∷ m) ≡ e ∷ from_on n m
with_higher n e m ge = ap (λ (b : Bool). cond b (e ∷ from_on n m) (from_on n m)) (is_le n e.0 ge)

without_lower : (n : ℕ) (e : ℕ × FeatureData) (m : FeatureMap) → e.0 < n → from_on n (e ∷ m) ≡ from_on n m
without_lower n e m lt = ap (λ (b : Bool). cond b (e ∷ from_on n m) (from_on n m)) (is_more n e.0 lt)

all_on : (n k : ℕ) (m : FeatureMap) → n ≤ k + 1 → AreAbove k m → from_on n m ≡ m
all_on n k [] le above = refl
all_on n k (e ∷ m) le above =
    let h = above.0 in with_higher n e m (omega (arith, h, le)) ∙ ap (λ (l : FeatureMap). e ∷ l) (all_on n k m le above.1)

below_push : (n : ℕ) (m : FeatureMap) (e : ℕ × FeatureData) → AreBelow n m → e.0 < n → AreBelow n (m ++ e ∷ [])
below_push n [] e low lt = (lt, tt)
below_push n (d ∷ m) e low lt = (low.0, below_push n m e low.1 lt)

-- the first of a map from a number on, after lower ones
after_lower : (n : ℕ) (front back : FeatureMap) → AreBelow n front → first_from n (front ++ back) ≡ first_from n back
after_lower n [] back low = refl
after_lower n (e ∷ front) back low =
    ap (λ (b : Bool). cond b (Some e) (first_from n (front ++ back))) (is_more n e.0 low.0) ∙ after_lower n front back low.1

first_is : (n : ℕ) (front back : FeatureMap) (e : ℕ × FeatureData) → AreBelow n front → n ≤ e.0 → feature_from (front ++ e ∷ back) n ≡ Some e
unfolding feature_from
first_is n front back e low ge =
    after_lower n front (e ∷ back) low ∙ ap (λ (b : Bool). cond b (Some e) (first_from n back)) (is_le n e.0 ge)

none_is : (n : ℕ) (front : FeatureMap) → AreBelow n front → feature_from (front ++ []) n ≡ None
unfolding feature_from
none_is n front low = after_lower n front [] low

-- those with a number or a greater one are the next ones
next_after : (front back : FeatureMap) (n : ℕ) → AreBelow n front → Ascends back → AreNext (front ++ back) n (from_on n back) None
next_after front [] n low up = none_is n front low
next_after front (e ∷ back) n low up = elim (cases_lt e.0 n) [
  | inl lt ↦
      subst (λ (l : FeatureMap). AreNext (front ++ e ∷ back) n l None) (sym (without_lower n e back lt))
      (subst (λ (m : FeatureMap). AreNext m n (from_on n back) None) (append_assoc front (e ∷ []) back)
      (next_after (front ++ e ∷ []) back n (below_push n front e low lt) (ascends_tail e back up)))
  | inr ge ↦
      let above = ascends_head e back up in
      let same : from_on (e.0 + 1) back ≡ from_on n back =
      all_on (e.0 + 1) e.0 back (omega arith) above ∙ sym (all_on n e.0 back (omega (arith, ge)) above) in
      subst (λ (l : FeatureMap). AreNext (front ++ e ∷ back) n l None) (sym (with_higher n e back ge)) (
        first_is n front back e low ge,
        subst (λ (l : FeatureMap). AreNext (front ++ e ∷ back) (e.0 + 1) l None) same
            (subst (λ (m : FeatureMap). AreNext m (e.0 + 1) (from_on (e.0 + 1) back) None) (append_assoc front (e ∷ []) back)
            (next_after (front ++ e ∷ []) back (e.0 + 1)
            (below_push (e.0 + 1) front e (lowered front (e.0 + 1) n (omega (arith, ge)) low) (omega arith)) (ascends_tail e back up))),
      )
]

-- the index has the numbers of those in the box
met_numbers : (bounds : WorldBox) (id : ℕ) (m : FeatureMap) → ids_met bounds id (map index_entry m) ≡ keys_of (in_box bounds (from_on id m))
met_numbers bounds id [] = refl
met_numbers bounds id (e ∷ m) = by (nat_le id e.0) (is_in_box bounds e) refl refl (met_numbers bounds id m)
  where
    by : (a b : Bool) → nat_le id e.0 ≡ a → is_in_box bounds e ≡ b → ids_met bounds id (map index_entry m) ≡ keys_of (in_box bounds (from_on id m))
        → ids_met bounds id (map index_entry (e ∷ m)) ≡ keys_of (in_box bounds (from_on id (e ∷ m)))
    by true true a b rest = rw (a, b) (ap (λ (ns : List ℕ). e.0 ∷ ns) rest)
    by true false a b rest = rw (a, b) rest
    by false b a other rest = rw a rest

-- and they are all
pub all_found : (m : FeatureMap) (bounds : WorldBox) (id : ℕ) (index : List IndexEntry) (f : InBox) → IsMap m → IsIndexed m index
    → ((es : List IndexEntry) → IsPermutation es index → IsNonDecreasingBy (λ e. e.id) es → f.numbers.items ≡ ids_met bounds id es)
    → f.next ≡ None → IsInBox m bounds id f
all_found m bounds id index f is_map indexed numbers next_is = record {
  features = from_on id m;
  next = None;
  are_next = next_after [] m id tt is_map.ascending;
  numbers = numbers (map index_entry m) indexed (ids_rise m is_map.ascending) ∙ met_numbers bounds id m;
  next_is = next_is;
  many = λ some. absurd (none_some f.next next_is some);
}
  where
    none_some : (o : Option ℕ) → o ≡ None → IsSome o → ⊥
    none_some o is some = let both = sym (ap is_some is) ∙ some in false≢true both
