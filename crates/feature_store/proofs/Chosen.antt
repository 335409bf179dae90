-- What a tile shows of the features of a few numbers is what it shows of all, where each that it shows is among them.
use Rattle.std.proofs.Common.{◌≡◌, ◌≢◌, ℕ, zero, suc, ◌+◌, ◌-◌, ◌<◌, ◌≤◌, Bool, true, false, List, [], ◌∷◌, ◌++◌, length, get_or, take, drop, map, All}
use Rattle.std.proofs.Common.{Option, Some, None, IsSome, inl, inr}
use Rattle.std.proofs.Common.{refl, sym, ap, subst, ◌∙◌, arith, if◌then◌else◌}
use Rattle.std.specs.List.{Contains, AllByRecursion, cons_option}
use Rattle.std.specs.List.Sorted.{IsStrictlySortedBy}
use Rattle.std.specs.Option.{option_map_or}
use Rattle.std.specs.Ordering.{nat_cmp}
use Rattle.std.specs.Str.{bytes_eq}
use Rattle.std.specs.declared.cmp.Ordering.TheVariants.{Less}
use Rattle.std.proofs.lemmas.Bool.{cases_eq}
use Rattle.std.proofs.lemmas.Bool.Decides.{nat_tests}
use Rattle.std.proofs.lemmas.List.{take_more, append-nil, map-append, take_all, take-append-drop, take-take, drop-take}
use Rattle.std.proofs.lemmas.List.Concat.{flat_map-append}
use Rattle.std.proofs.lemmas.List.Elements.{All-nil, All-cons, All-head, All-tail, All-append, filter_map-append}
use Rattle.std.proofs.lemmas.Map.Keys.{sorted_head, sorted_tail}
use Rattle.number_map.specs.Blocks.{Ascends, AreAbove}
use Rattle.number_map.proofs.Numbers.{below, by_order}
use Rattle.number_map.proofs.Entries.{ascends_head, ascends_tail, raised, lookup_here, lookup_on, lookup_above}
use Rattle.feature_model.specs.Data.{FeatureData}
use Rattle.mvt_layer.specs.Tile.{FeatureView}
use Rattle.tile_cutter.specs.Cut.{feature_cut}
use Rattle.feature_store.specs.Chosen.{chosen, found_data}
use Rattle.feature_store.specs.declared.gathered.Found.{Found}
use Rattle.feature_store.specs.declared.tile_parts.TileParts.{TileParts}
use Rattle.feature_store.specs.Gathered.{Gathers}
use Rattle.feature_store.specs.Indexed.{ShowsAll}
use Rattle.feature_store.specs.Layers.{numbered_cut, cut_for, cuts_of}
use Rattle.feature_store.specs.Parts.{IsInMaking, added, work_of}
use Rattle.feature_store.specs.Store.{FeatureMap, IsMap, feature_at, entry_at}
use Rattle.feature_store.proofs.Gathers.{gathers_same}

-- numbers, and one more
pub chosen_more : (m : FeatureMap) (ns : List ℕ) (i : ℕ) → i < length ns
    → chosen m (take (i + 1) ns) ≡ chosen m (take i ns) ++ entry_at m (get_or ns i 0)
chosen_more m ns i lt =
    let n = get_or ns i 0 in
    ap (chosen m) (take_more ns i 0 lt)
    ∙ flat_map-append (entry_at m) (take i ns) (n ∷ [])
    ∙ ap (λ es. chosen m (take i ns) ++ es) (append-nil (entry_at m n))

-- what a tile shows of some entries and of others
pub cuts_both : (es fs : FeatureMap) (name : List ℕ) (z x y : ℕ) → cuts_of (es ++ fs) name z x y ≡ cuts_of es name z x y ++ cuts_of fs name z x y
cuts_both es fs name z x y = filter_map-append (cut_for name z x y) es fs

-- what a tile shows of the features that were looked up, and of one more
pub found_more : (xs : List Found) (i : ℕ) (one : Found) (name : List ℕ) (z x y : ℕ) → i < length xs → one ≡ get_or xs i one
    → cuts_of (map found_data (take (i + 1) xs)) name z x y
    ≡ cuts_of (map found_data (take i xs)) name z x y ++ cuts_of (found_data one ∷ []) name z x y
found_more xs i one name z x y lt is =
    ap (λ t. cuts_of (map found_data t) name z x y) (take_more xs i one lt ∙ ap (λ f. take i xs ++ f ∷ []) (sym is))
    ∙ ap (λ es. cuts_of es name z x y) (map-append found_data (take i xs) (one ∷ []))
    ∙ cuts_both (map found_data (take i xs)) (found_data one ∷ []) name z x y

-- those of some numbers and of others
pub chosen_both : (m : FeatureMap) (ns os : List ℕ) → chosen m (ns ++ os) ≡ chosen m ns ++ chosen m os
chosen_both m ns os = flat_map-append (entry_at m) ns os

entry_here : (e : ℕ × FeatureData) (m : FeatureMap) (n : ℕ) → n ≡ e.0 → entry_at (e ∷ m) n ≡ e ∷ []
unfolding feature_at
entry_here e m n here =
    ap (λ o. option_map_or (λ f. let d : ℕ × FeatureData = (n, f) in d ∷ []) o []) (lookup_here n e m here)
    ∙ ap (λ (k : ℕ). let d : ℕ × FeatureData = (k, e.1) in d ∷ []) here

entry_on : (e : ℕ × FeatureData) (m : FeatureMap) (n : ℕ) → n ≢ e.0 → entry_at (e ∷ m) n ≡ entry_at m n
unfolding feature_at
entry_on e m n differs = ap (λ o. option_map_or (λ f. let d : ℕ × FeatureData = (n, f) in d ∷ []) o []) (lookup_on n e m differs)

no_entry : (m : FeatureMap) (n : ℕ) → AreAbove n m → entry_at m n ≡ []
unfolding feature_at
no_entry m n above = ap (λ o. option_map_or (λ f. let d : ℕ × FeatureData = (n, f) in d ∷ []) o []) (lookup_above m n above)

-- what holds of all entries holds of those that are chosen
All-entry : (P : ℕ × FeatureData → Type 0) (m : FeatureMap) (n : ℕ) → All P m → All P (entry_at m n)
unfolding feature_at
All-entry P [] n all = All-nil P
All-entry P (e ∷ m) n all = elim (cases_eq n e.0) [
  | inl here ↦ subst (All P) (sym (entry_here e m n here)) (All-cons P e [] (All-head P e m all) (All-nil P))
  | inr differs ↦ subst (All P) (sym (entry_on e m n differs)) (All-entry P m n (All-tail P e m all))
]

pub All-chosen : (P : ℕ × FeatureData → Type 0) (m : FeatureMap) (ns : List ℕ) → All P m → All P (chosen m ns)
All-chosen P m [] all = All-nil P
All-chosen P m (n ∷ ns) all = All-append P (entry_at m n) (chosen m ns) (All-entry P m n all) (All-chosen P m ns all)

-- numbers above this one
abbrev AreOver : ℕ → List ℕ → Type 0
AreOver n ns = AllByRecursion (λ k. n < k) ns

over_from : (n : ℕ) (ns : List ℕ) → AllByRecursion (λ k. nat_cmp n k ≡ Less) ns → AreOver n ns
over_from n [] all = tt
over_from n (k ∷ ns) all = (below n k all.0, over_from n ns all.1)

over_head : (n : ℕ) (ns : List ℕ) → IsStrictlySortedBy nat_cmp (n ∷ ns) → AreOver n ns
over_head n ns up = over_from n ns (sorted_head nat_cmp n ns up)

over_lower : (n k : ℕ) (ns : List ℕ) → n < k → AreOver k ns → AreOver n ns
over_lower n k [] lt all = tt
over_lower n k (j ∷ ns) lt all = let h = all.0 in (omega arith, over_lower n k ns lt all.1)

not_over : (n : ℕ) (ns : List ℕ) → AreOver n ns → Contains ns n → ⊥
not_over n [] all (k, lt, is) = omega arith
not_over n (j ∷ ns) all (zero, lt, is) = let h = all.0 in omega arith
not_over n (j ∷ ns) all (suc k, lt, is) = not_over n ns all.1 (k, omega arith, is)

contained_behind : (n : ℕ) (ns : List ℕ) (k : ℕ) → Contains (n ∷ ns) k → n ≢ k → Contains ns k
contained_behind n ns k (zero, lt, is) differs = absurd (differs is)
contained_behind n ns k (suc i, lt, is) differs = (i, omega arith, is)

chosen_none : (ns : List ℕ) → chosen [] ns ≡ []
unfolding feature_at
chosen_none [] = refl
chosen_none (n ∷ ns) = chosen_none ns

chosen_on : (e : ℕ × FeatureData) (m : FeatureMap) (ns : List ℕ) → AreOver e.0 ns → chosen (e ∷ m) ns ≡ chosen m ns
chosen_on e m [] over = refl
chosen_on e m (n ∷ ns) over =
    let h = over.0 in
    let first : entry_at (e ∷ m) n ≡ entry_at m n = entry_on e m n (λ same. omega arith) in
    let rest : chosen (e ∷ m) ns ≡ chosen m ns = chosen_on e m ns over.1 in
    λ i. first i ++ rest i

module _ (name : List ℕ) (z x y : ℕ) where
  -- a number is among these where the tile shows something of its feature
  abbrev IsAsked : List ℕ → ℕ × FeatureData → Type 0
  IsAsked ns e = IsSome (feature_cut e.1 z x y) → Contains ns e.0

  asked_behind : (n : ℕ) (ns : List ℕ) (m : FeatureMap) → AreAbove n m → All (IsAsked (n ∷ ns)) m → All (IsAsked ns) m
  asked_behind n ns [] above asked = All-nil (IsAsked ns)
  asked_behind n ns (e ∷ m) above asked =
      let h = above.0 in
      All-cons (IsAsked ns) e m (λ some. contained_behind n ns e.0 (All-head (IsAsked (n ∷ ns)) e m asked some) (λ same. omega arith))
      (asked_behind n ns m above.1 (All-tail (IsAsked (n ∷ ns)) e m asked))

  no_cut : (e : ℕ × FeatureData) (o : Option FeatureView) → feature_cut e.1 z x y ≡ o → (IsSome o → ⊥) → cut_for name z x y e ≡ None
  no_cut e None is none = by (bytes_eq e.1.layer name)
    where
      by : (b : Bool) → (if b then numbered_cut z x y e else None) ≡ None
      by true = rw is refl
      by false = refl
  no_cut e (Some v) is none = absurd (none refl)

  cuts_on : (e : ℕ × FeatureData) (m : FeatureMap) → (IsSome (feature_cut e.1 z x y) → ⊥) → cuts_of (e ∷ m) name z x y ≡ cuts_of m name z x y
  cuts_on e m none = ap (λ o. cons_option o (cuts_of m name z x y)) (no_cut e (feature_cut e.1 z x y) refl none)

  chosen_are : (m : FeatureMap) (ns : List ℕ) → Ascends m → IsStrictlySortedBy nat_cmp ns → All (IsAsked ns) m
      → cuts_of (chosen m ns) name z x y ≡ cuts_of m name z x y
  chosen_are [] ns up ns_up asked = ap (λ es. cuts_of es name z x y) (chosen_none ns)
  chosen_are (e ∷ m) [] up ns_up asked =
      chosen_are m [] (ascends_tail e m up) ns_up (All-tail (IsAsked []) e m asked)
      ∙ sym (cuts_on e m (λ some. not_over e.0 [] tt (All-head (IsAsked []) e m asked some)))
  chosen_are (e ∷ m) (n ∷ ns) up ns_up asked = by_order n e.0
      (λ h.
      let above : AreAbove n (e ∷ m) = (h, raised m n e.0 (omega (arith, h)) (ascends_head e m up)) in
      ap (λ es. cuts_of (es ++ chosen (e ∷ m) ns) name z x y) (no_entry (e ∷ m) n above)
      ∙ chosen_are (e ∷ m) ns up (sorted_tail nat_cmp n ns ns_up) (asked_behind n ns (e ∷ m) above asked))
      (λ h.
      let over : AreOver e.0 ns = subst (λ k. AreOver k ns) h (over_head n ns ns_up) in
      let above : AreAbove n m = subst (λ k. AreAbove k m) (sym h) (ascends_head e m up) in
      let first = entry_here e m n h in
      let rest = chosen_on e m ns over in
      ap (λ es. cuts_of (es ++ chosen (e ∷ m) ns) name z x y) first
      ∙ ap (λ es. cuts_of (e ∷ es) name z x y) rest
      ∙ ap (cons_option (cut_for name z x y e))
      (chosen_are m ns (ascends_tail e m up) (sorted_tail nat_cmp n ns ns_up) (asked_behind n ns m above (All-tail (IsAsked (n ∷ ns)) e m asked))))
      (λ h.
      let over : AreOver e.0 (n ∷ ns) = (h, over_lower e.0 n ns h (over_head n ns ns_up)) in
      ap (λ es. cuts_of es name z x y) (chosen_on e m (n ∷ ns) over)
      ∙ chosen_are m (n ∷ ns) (ascends_tail e m up) ns_up (All-tail (IsAsked (n ∷ ns)) e m asked)
      ∙ sym (cuts_on e m (λ some. not_over e.0 (n ∷ ns) over (All-head (IsAsked (n ∷ ns)) e m asked some))))

pub all_chosen : (m : FeatureMap) (ns : List ℕ) (name : List ℕ) (z x y : ℕ) → IsMap m → ShowsAll m z x y ns
    → cuts_of (chosen m ns) name z x y ≡ cuts_of m name z x y
all_chosen m ns name z x y is_map shows = chosen_are name z x y m ns is_map.ascending shows.ascending shows.every

-- ---- a tile in the making

-- where no layers are being written, nothing is left only once all numbers are added
pub all_added : (numbers left : ℕ) → work_of None numbers left ≡ 0 → left ≡ 0
all_added numbers left none = grind (arith, nat_tests)

-- once all numbers are added, all is gathered that the tile shows
pub all_shown : (m : FeatureMap) (p : TileParts) → IsMap m → IsInMaking m p → p.end ≡ None → p.left ≡ 0
    → Gathers p.gathered (λ name. cuts_of m name p.at.z p.at.x p.at.y)
all_shown m p is_map making gathered none =
    let numbers = p.numbers.items in
    let all : added p ≡ numbers = take_all (length numbers - p.left) numbers (omega (arith, none)) in
    gathers_same p.gathered _ _
    (λ name. ap (λ ns. cuts_of (chosen m ns) name p.at.z p.at.x p.at.y) all ∙ all_chosen m numbers name p.at.z p.at.x p.at.y is_map making.shown)
    (making.gathers gathered)

-- the first numbers, and a part of those that are left
pub parted : (ns : List ℕ) (left count : ℕ) → count ≤ left → left ≤ length ns
    → take (length ns - (left - count)) ns ≡ take (length ns - left) ns ++ take count (drop (length ns - left) ns)
parted ns left count le within =
    let start = length ns - left in
    let end : length ns - (left - count) ≡ start + count = omega (arith, le, within) in
    ap (λ n. take n ns) end
    ∙ sym (take-append-drop start (take (start + count) ns))
    ∙ ap (λ front. front ++ drop start (take (start + count) ns)) (take-take start (start + count) ns (omega arith))
    ∙ ap (λ back. take start ns ++ back) (drop-take start count ns)

pub next_part : (ns now : List ℕ) (len left count : ℕ) → len ≡ length ns → now ≡ ns
    → take ((len - left) + count - (len - left)) (drop (len - left) now) ≡ take count (drop (length ns - left) ns)
next_part ns now len left count is same =
    let few : (len - left) + count - (len - left) ≡ count = omega arith in
    ap (λ n. take n (drop (len - left) now)) few ∙ ap (λ n. take count (drop (n - left) now)) is
    ∙ ap (λ os. take count (drop (length ns - left) os)) same

-- what a tile shows of the features of some numbers and of others
pub cuts_parted : (m : FeatureMap) (ns os : List ℕ) (name : List ℕ) (z x y : ℕ)
    → cuts_of (chosen m ns) name z x y ++ cuts_of (chosen m os) name z x y ≡ cuts_of (chosen m (ns ++ os)) name z x y
cuts_parted m ns os name z x y =
    sym (cuts_both (chosen m ns) (chosen m os) name z x y) ∙ ap (λ es. cuts_of es name z x y) (sym (chosen_both m ns os))
