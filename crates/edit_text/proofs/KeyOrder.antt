-- Keys in order, and one more after them.
use Rattle.std.proofs.Common.{◌≡◌, ℕ, true, List, [], ◌∷◌, ◌++◌, refl, ap, Ordering}
use Rattle.std.specs.Ordering.{nat_cmp, is_lt}
use Rattle.std.specs.declared.cmp.Ordering.TheVariants.{Less, Equal, Greater}
use Rattle.std.specs.Cmp.Lexicographic.{slice_cmp, nat_list_cmp_total}
use Rattle.std.specs.List.{AllByRecursion}
use Rattle.std.specs.List.Sorted.{IsStrictlySortedBy}
use Rattle.std.proofs.lemmas.Bool.{false≢true}
use Rattle.feature_model.specs.Data.{TagData}
use Rattle.feature_model.specs.Limits.{HasAscendingKeys, keys_of}
use Rattle.edit_text.specs.Reading.{is_next_key}

-- bytes in order
abbrev pub Sorted : List (List ℕ) → Type 0
Sorted ks = IsStrictlySortedBy (slice_cmp nat_cmp) ks

less_from_lt : (o : Ordering) → is_lt o ≡ true → o ≡ Less
less_from_lt Less t = refl
less_from_lt Equal t = absurd (false≢true t)
less_from_lt Greater t = absurd (false≢true t)

all_push : {K : Type 0} (P : K → Type 0) (xs : List K) (y : K) → AllByRecursion P xs → P y → AllByRecursion P (xs ++ y ∷ [])
all_push P [] y a p = (p, tt)
all_push P (x ∷ xs) y a p = (a.0, all_push P xs y a.1 p)

all_end : {K : Type 0} (P : K → Type 0) (xs : List K) (y : K) → AllByRecursion P (xs ++ y ∷ []) → P y
all_end P [] y a = a.0
all_end P (x ∷ xs) y a = all_end P xs y a.1

all_front : {K : Type 0} (P : K → Type 0) (xs more : List K) → AllByRecursion P (xs ++ more) → AllByRecursion P xs
all_front P [] more a = tt
all_front P (x ∷ xs) more a = (a.0, all_front P xs more a.1)

pub sorted_none : Sorted []
unfolding IsStrictlySortedBy
sorted_none = tt

pub sorted_push : (tags : List TagData) (key : List ℕ) → HasAscendingKeys tags → is_next_key tags key ≡ true → Sorted (keys_of tags ++ key ∷ [])
unfolding IsStrictlySortedBy is_next_key
sorted_push [] key h t = (tt, tt)
sorted_push (t ∷ []) key h next = ((less_from_lt (slice_cmp nat_cmp t.key key) next, tt), (tt, tt))
sorted_push (t ∷ u ∷ ts) key h next =
    let others = sorted_push (u ∷ ts) key h.1 next in
    let below = all_end (λ k. slice_cmp nat_cmp u.key k ≡ Less) (keys_of ts) key others.0 in
    (all_push (λ k. slice_cmp nat_cmp t.key k ≡ Less) (keys_of (u ∷ ts)) key h.0 (nat_list_cmp_total.trans t.key u.key key h.0.0 below), others)

pub sorted_last : (tags : List TagData) (key : List ℕ) → Sorted (keys_of tags ++ key ∷ []) → is_next_key tags key ≡ true
unfolding IsStrictlySortedBy is_next_key
sorted_last [] key h = refl
sorted_last (t ∷ []) key h = ap is_lt h.0.0
sorted_last (t ∷ u ∷ ts) key h = sorted_last (u ∷ ts) key h.1

pub sorted_front : (ks more : List (List ℕ)) → Sorted (ks ++ more) → Sorted ks
unfolding IsStrictlySortedBy
sorted_front [] more h = tt
sorted_front (k ∷ ks) more h = (all_front (λ j. slice_cmp nat_cmp k j ≡ Less) ks more h.0, sorted_front ks more h.1)
