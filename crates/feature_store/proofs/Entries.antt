-- Entries and the map that they keep.
use Rattle.std.proofs.Common.{◌≡◌, ℕ, true, false, Bool, cond, ◌+◌, ◌<◌, inl, inr, refl, sym, ap, subst, ◌∙◌}
use Rattle.std.proofs.Common.{List, [], ◌∷◌, ◌++◌, All, length, get_or, take, drop, append_assoc, Option, Some, None, Bor}
use Rattle.std.specs.Option.{IfSome, is_some, option_map}
use Rattle.std.specs.Ordering.{nat_cmp, match_ordering}
use Rattle.std.specs.declared.cmp.Ordering.{Ordering}
use Rattle.std.specs.declared.cmp.Ordering.TheVariants.{Less, Equal, Greater}
use Rattle.std.specs.BTreeMap.{insert_entry, is_at}
use Rattle.std.specs.List.{last_or}
use Rattle.std.specs.List.Sorted.{IsStrictlySortedBy}
use Rattle.std.specs.Map.{keys_of, lookup, remove_entry}
use Rattle.std.proofs.lemmas.Bool.{cases_eq}
use Rattle.std.proofs.lemmas.List.{map-append, append-nil, take_more, drop_more, take-append-drop}
use Rattle.std.proofs.lemmas.List.Elements.{All-cons, All-head, All-tail}
use Rattle.number_map.proofs.Entries.{lookup_here, lookup_on, set_step}
use Rattle.number_map.proofs.Numbers.{less, equal, greater, by_order}
use Rattle.std.proofs.lemmas.List.Concat.{flat_map-append}
use Rattle.std.proofs.lemmas.Map.Made.{lookup-map_values}
use Rattle.std.specs.Prelude.{nat_le}
use Rattle.number_map.specs.Blocks.{Ascends, joined, first_from, last_number}
use Rattle.feature_model.specs.Data.{FeatureData}
use Rattle.tile_cutter.specs.WorldBox.{bounding_box}
use Rattle.feature_store.specs.Inside.{Stored, stored_data, entry_data, entries_data, IsOwn}
use Rattle.feature_store.specs.Store.{FeatureMap, feature_at, box_at, feature_from, greatest_id, with_feature, without_feature, entry_text, snapshot}
use Rattle.feature_store.proofs.Snapshots.{snapshot_more, snapshot_both, All-front, All-behind}

-- the feature of a number
pub feature_found : (es : List (ℕ × Stored)) (n : ℕ) → feature_at (entries_data es) n ≡ option_map stored_data (lookup (is_at (nat_cmp n)) es)
unfolding feature_at
feature_found es n = lookup-map_values stored_data (is_at (nat_cmp n)) es

-- its bounding box
pub box_found : (es : List (ℕ × Stored)) (n : ℕ) (o : Option Stored) → o ≡ lookup (is_at (nat_cmp n)) es
    → option_map (λ f. bounding_box (stored_data f).geometry) o ≡ box_at (entries_data es) n
box_found es n o is = by o ∙ ap (option_map (λ f. bounding_box f.geometry)) (ap (option_map stored_data) is ∙ sym (feature_found es n))
  where
    by : (p : Option Stored) → option_map (λ f. bounding_box (stored_data f).geometry) p
        ≡ option_map (λ f. bounding_box f.geometry) (option_map stored_data p)
    by None = refl
    by (Some f) = refl

-- a number with a box has a feature
pub is_some_box : (m : FeatureMap) (n : ℕ) → is_some (box_at m n) ≡ is_some (feature_at m n)
is_some_box m n = by (feature_at m n)
  where
    by : (o : Option FeatureData) → is_some (option_map (λ f. bounding_box f.geometry) o) ≡ is_some o
    by None = refl
    by (Some f) = refl

same_keys : (es : List (ℕ × Stored)) → keys_of es ≡ keys_of (entries_data es)
same_keys [] = refl
same_keys (e ∷ es) = ap (λ ks. e.0 ∷ ks) (same_keys es)

pub entries_ascend : (es : List (ℕ × Stored)) → Ascends (entries_data es) → Ascends es
entries_ascend es ascends = subst (IsStrictlySortedBy nat_cmp) (sym (same_keys es)) ascends

-- the greatest number
pub greatest_found : (es : List (ℕ × Stored)) → last_number es ≡ greatest_id (entries_data es)
unfolding greatest_id
greatest_found es = ap (last_or None) (same_keys es)

-- the first one from a number on
first_data : (es : List (ℕ × Stored)) (n : ℕ) → first_from n (entries_data es) ≡ option_map entry_data (first_from n es)
first_data [] n = refl
first_data (e ∷ es) n = by (nat_le n e.0) (first_data es n)
  where
    by : (b : Bool) → first_from n (entries_data es) ≡ option_map entry_data (first_from n es)
        → cond b (Some (entry_data e)) (first_from n (entries_data es)) ≡ option_map entry_data (cond b (Some e) (first_from n es))
    by true rest = refl
    by false rest = rest

pub first_found : (es : List (ℕ × Stored)) (n : ℕ) → feature_from (entries_data es) n ≡ option_map entry_data (first_from n es)
unfolding feature_from
first_found es n = first_data es n

set_data : (es : List (ℕ × Stored)) (n : ℕ) (f : Stored)
    → entries_data (insert_entry nat_cmp es n f) ≡ insert_entry nat_cmp (entries_data es) n (stored_data f)
set_data [] n f = refl
set_data (e ∷ es) n f = by (nat_cmp n e.0) (set_data es n f)
  where
    by : (o : Ordering) → entries_data (insert_entry nat_cmp es n f) ≡ insert_entry nat_cmp (entries_data es) n (stored_data f)
        → entries_data (match_ordering o ((n, f) ∷ e ∷ es) ((e.0, f) ∷ es) (e ∷ insert_entry nat_cmp es n f))
        ≡ match_ordering o ((n, stored_data f) ∷ entry_data e ∷ entries_data es) ((e.0, stored_data f) ∷ entries_data es)
        (entry_data e ∷ insert_entry nat_cmp (entries_data es) n (stored_data f))
    by Less rest = refl
    by Equal rest = refl
    by Greater rest = ap (λ m. entry_data e ∷ m) rest

removed_data : (es : List (ℕ × Stored)) (n : ℕ) → entries_data (remove_entry (is_at (nat_cmp n)) es) ≡ remove_entry (is_at (nat_cmp n)) (entries_data es)
removed_data [] n = refl
removed_data (e ∷ es) n = by (is_at (nat_cmp n) e.0) (removed_data es n)
  where
    by : (b : Bool) → entries_data (remove_entry (is_at (nat_cmp n)) es) ≡ remove_entry (is_at (nat_cmp n)) (entries_data es)
        → entries_data (cond b es (e ∷ remove_entry (is_at (nat_cmp n)) es))
        ≡ cond b (entries_data es) (entry_data e ∷ remove_entry (is_at (nat_cmp n)) (entries_data es))
    by true rest = refl
    by false rest = ap (λ m. entry_data e ∷ m) rest

-- the map once a number is set, or taken away
pub set_is : (es : List (ℕ × Stored)) (n : ℕ) (f : Stored) → entries_data (insert_entry nat_cmp es n f) ≡ with_feature (entries_data es) n (stored_data f)
unfolding with_feature
set_is es n f = set_data es n f

pub removed_is : (es : List (ℕ × Stored)) (n : ℕ) → entries_data (remove_entry (is_at (nat_cmp n)) es) ≡ without_feature (entries_data es) n
unfolding without_feature
removed_is es n = removed_data es n

-- what is found, without where it lies in memory
pub found_data : (o : Option (Bor Stored)) (p : Option Stored) → option_map (λ v. v.now) o ≡ p
    → option_map (λ f. stored_data f.now) o ≡ option_map stored_data p
found_data None p is = ap (option_map stored_data) is
found_data (Some v) p is = ap (option_map stored_data) is

-- ---- entries as texts

module _ (es : List (ℕ × Stored)) (i : ℕ) (e : ℕ × Stored) where
  -- the text of an entry is that of its number and its feature
  pub own_text : (text : List ℕ) → i < length es → e ≡ get_or es i e → All IsOwn es → text ≡ entry_text e.1 → text ≡ entry_text (entry_data e)
  own_text text lt is all same =
      let own : e.1.0 ≡ e.0 = subst IsOwn (sym is) (all i e lt) in
      same ∙ ap (λ n. entry_text (n, e.1.1)) own

  -- the texts of the first entries and of one more
  pub text_more : (front out next : List ℕ) → i < length es → e ≡ get_or es i e → out ≡ front ++ snapshot (entries_data (take i es))
      → next ≡ out ++ entry_text (entry_data e) → next ≡ front ++ snapshot (entries_data (take (i + 1) es))
  text_more front out next lt is before after =
      rw (take_more es i e lt, ← is, map-append)
      (after ∙ ap (λ r. r ++ entry_text (entry_data e)) before ∙ snapshot_more front (entries_data (take i es)) (entry_data e))

  -- the map of the first entries, and of one more
  pub entries_more : (front m next : FeatureMap) → i < length es → e ≡ get_or es i e → m ≡ front ++ entries_data (take i es)
      → next ≡ m ++ entry_data e ∷ [] → next ≡ front ++ entries_data (take (i + 1) es)
  entries_more front m next lt is before after =
      rw (take_more es i e lt, ← is, map-append)
      (after ∙ ap (λ r. r ++ entry_data e ∷ []) before ∙ append_assoc front (entries_data (take i es)) (entry_data e ∷ []))

module _ (bs : List (List (ℕ × Stored))) (i : ℕ) (b : List (ℕ × Stored)) (lt : i < length bs) (is : b ≡ get_or bs i b) where
  -- blocks, at a block
  joined_parted : joined bs ≡ joined (take i bs) ++ (b ++ joined (drop (i + 1) bs))
  joined_parted =
      ap joined (sym (take-append-drop i bs) ∙ ap (λ r. take i bs ++ r) (drop_more bs i b lt ∙ ap (λ x. x ∷ drop (i + 1) bs) (sym is)))
      ∙ flat_map-append (λ es. es) (take i bs) (b ∷ drop (i + 1) bs)

  -- the map of the first blocks, and of one more
  first_blocks : entries_data (joined (take (i + 1) bs)) ≡ entries_data (joined (take i bs)) ++ entries_data b
  first_blocks =
      ap (λ t. entries_data (joined t)) (take_more bs i b lt ∙ ap (λ x. take i bs ++ x ∷ []) (sym is))
      ∙ ap entries_data (flat_map-append (λ es. es) (take i bs) (b ∷ []) ∙ ap (λ x. joined (take i bs) ++ x) (append-nil b))
      ∙ map-append entry_data (joined (take i bs)) b

  pub blocks_more : (front m next : FeatureMap) → m ≡ front ++ entries_data (joined (take i bs)) → next ≡ m ++ entries_data b
      → next ≡ front ++ entries_data (joined (take (i + 1) bs))
  blocks_more front m next before after =
      after ∙ ap (λ r. r ++ entries_data b) before ∙ append_assoc front (entries_data (joined (take i bs))) (entries_data b)
      ∙ ap (λ r. front ++ r) (sym first_blocks)

  pub block_texts_more : (front out next : List ℕ) → out ≡ front ++ snapshot (entries_data (joined (take i bs)))
      → next ≡ out ++ snapshot (entries_data b) → next ≡ front ++ snapshot (entries_data (joined (take (i + 1) bs)))
  block_texts_more front out next before after =
      after ∙ ap (λ r. r ++ snapshot (entries_data b)) before
      ∙ append_assoc front (snapshot (entries_data (joined (take i bs)))) (snapshot (entries_data b))
      ∙ ap (λ r. front ++ r) (sym (snapshot_both (entries_data (joined (take i bs))) (entries_data b)) ∙ ap snapshot (sym first_blocks))

  -- what holds of all entries holds of a block's
  pub block_own : All IsOwn (joined bs) → All IsOwn b
  block_own all =
      All-front IsOwn b (joined (drop (i + 1) bs)) (All-behind IsOwn (joined (take i bs)) (b ++ joined (drop (i + 1) bs)) (subst (All IsOwn) joined_parted all))

-- ---- entries whose texts give features to their own numbers

-- those once a number is set by such a text, or taken away
pub own_set : (es : List (ℕ × Stored)) (n : ℕ) (s : Stored) → s.0 ≡ n → All IsOwn es → All IsOwn (insert_entry nat_cmp es n s)
own_set [] n s is all = All-cons IsOwn (n, s) [] is all
own_set (e ∷ es) n s is all = by_order n e.0
    (λ h. subst (All IsOwn) (sym (set_step n s e es Less (less n e.0 h))) (All-cons IsOwn (n, s) (e ∷ es) is all))
    (λ h. subst (All IsOwn) (sym (set_step n s e es Equal (equal n e.0 h))) (All-cons IsOwn (e.0, s) es (is ∙ h) (All-tail IsOwn e es all)))
    (λ h. subst (All IsOwn) (sym (set_step n s e es Greater (greater n e.0 h)))
    (All-cons IsOwn e (insert_entry nat_cmp es n s) (All-head IsOwn e es all) (own_set es n s is (All-tail IsOwn e es all))))

pub own_removed : (es : List (ℕ × Stored)) (n : ℕ) → All IsOwn es → All IsOwn (remove_entry (is_at (nat_cmp n)) es)
own_removed [] n all = all
own_removed (e ∷ es) n all = by (is_at (nat_cmp n) e.0) (own_removed es n (All-tail IsOwn e es all))
  where
    by : (b : Bool) → All IsOwn (remove_entry (is_at (nat_cmp n)) es) → All IsOwn (cond b es (e ∷ remove_entry (is_at (nat_cmp n)) es))
    by true rest = All-tail IsOwn e es all
    by false rest = All-cons IsOwn e (remove_entry (is_at (nat_cmp n)) es) (All-head IsOwn e es all) rest

-- what is found of a number gives the feature to that number
pub own_found : (es : List (ℕ × Stored)) (n : ℕ) → All IsOwn es → IfSome (lookup (is_at (nat_cmp n)) es) (λ s. s.0 ≡ n)
own_found [] n all = tt
own_found (e ∷ es) n all = elim (cases_eq n e.0) [
  | inl same ↦ subst (λ o. IfSome o (λ s. s.0 ≡ n)) (sym (lookup_here n e es same)) (All-head IsOwn e es all ∙ sym same)
  | inr differs ↦ subst (λ o. IfSome o (λ s. s.0 ≡ n)) (sym (lookup_on n e es differs)) (own_found es n (All-tail IsOwn e es all))
]
