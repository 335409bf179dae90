-- A snapshot is that of one map; what an edit leaves of a map's invariant; and how a snapshot is read.
use Rattle.std.proofs.Common.{◌≡◌, ◌==◌, Bool, false, ℕ, ◌+◌, ◌-◌, ◌<◌, ◌≤◌, ◌⊎◌, inl, inr, refl, sym, ap, subst, ◌∙◌, arith}
use Rattle.std.proofs.Common.{List, [], ◌∷◌, ◌++◌, length, get_or, take, drop, append_assoc}
use Rattle.std.proofs.lemmas.Bool.Decides.{nat_tests}
use Rattle.std.specs.List.{All}
use Rattle.std.specs.Ordering.{nat_cmp}
use Rattle.std.specs.declared.cmp.Ordering.TheVariants.{Greater}
use Rattle.std.specs.BTreeMap.{insert_entry}
use Rattle.std.proofs.lemmas.List.{append-nil, length-append, length-drop, take_all, drop_at, flat_map_more, nil_from_length}
use Rattle.std.proofs.lemmas.List.Elements.{All-nil, All-cons, All-head, All-tail, All-push}
use Rattle.feature_model.specs.Data.{FeatureData, ChangeData, put, delete}
use Rattle.feature_model.specs.Spelled.{spelled_change}
use Rattle.feature_model.specs.Types.{IsChange}
use Rattle.edit_text.specs.Decoding.{BeginsWithChange}
use Rattle.std.specs.Prelude.{◌↔◌}
use Rattle.std.proofs.lemmas.Grind.{get_or_at_push}
use Rattle.std.proofs.lemmas.List.Concat.{flat_map-append}
use Rattle.edit_text.proofs.Laws.{long_from, one_change}
use Rattle.feature_store.specs.declared.fault.SnapshotFault.{SnapshotFault}
use Rattle.feature_store.specs.declared.fault.SnapshotFault.TheVariants.{Bad, Memory}
use Rattle.feature_store.specs.declared.limit.TheConstants.{TEXTS_END}
use Rattle.feature_store.specs.Snapshots.{IsEditOf, IsBehind, IsNoSnapshot}
use Rattle.feature_store.specs.Store.{FeatureMap, IsMap, with_feature, without_feature, changed, entry_text, snapshot}
use Rattle.number_map.specs.Blocks.{Ascends, AreAbove}
use Rattle.number_map.proofs.Numbers.{greater}
use Rattle.number_map.proofs.Entries.{ascends_none, ascends_head, ascends_tail, ascends_cons, set_step}
use Rattle.feature_store.proofs.Maps.{IsMap-with_feature, IsMap-without_feature}
use Rattle.feature_store.proofs.Texts.{none_takes, snapshot_on, without_takes}

-- the number and the feature of an edit that sets one
abbrev set_by : ℕ × FeatureData → ChangeData → ℕ × FeatureData
set_by d (put id f) = (id, f)
set_by d (delete id) = d

none_is_one : (e : ℕ × FeatureData) (m : FeatureMap) → snapshot [] ≡ snapshot (e ∷ m) → ⊥
unfolding snapshot
none_is_one e m same = omega (arith, ap length same, snapshot_on e m, long_from (put e.0 e.1))

texts_of_two : (e f : ℕ × FeatureData) (m n : FeatureMap) → snapshot (e ∷ m) ≡ snapshot (f ∷ n) → entry_text e ++ snapshot m ≡ entry_text f ++ snapshot n
unfolding snapshot
texts_of_two e f m n same = same

pub one_map : (m n : FeatureMap) → All IsEditOf m → All IsEditOf n → snapshot m ≡ snapshot n → m ≡ n
one_map [] [] ms ns same = refl
one_map [] (f ∷ n) ms ns same = absurd (none_is_one f n same)
one_map (e ∷ m) [] ms ns same = absurd (none_is_one e m (sym same))
one_map (e ∷ m) (f ∷ n) ms ns same =
    let both = one_change (put e.0 e.1) (put f.0 f.1) (snapshot m) (snapshot n) (All-head IsEditOf e m ms) (All-head IsEditOf f n ns)
    (texts_of_two e f m n same) in
    let first : e ≡ f = ap (set_by e) both.0 in
    let rest : m ≡ n = one_map m n (All-tail IsEditOf e m ms) (All-tail IsEditOf f n ns) both.1 in
    λ i. first i ∷ rest i

pub map_without : (m : FeatureMap) (id : ℕ) → IsMap m → IsMap (without_feature m id)
map_without m id is_map = IsMap-without_feature m id is_map (omega (arith, without_takes m id, is_map.short))

-- a map after an edit is a map, where its texts are short together
pub map_changed : (m : FeatureMap) (e : ChangeData) → IsMap m → IsChange e → length (snapshot (changed m e)) < TEXTS_END → IsMap (changed m e)
map_changed m (put id f) is_map edit short = IsMap-with_feature m id f is_map edit short
map_changed m (delete id) is_map edit short = map_without m id is_map

-- ---- one entry more

pub snapshot_none : snapshot [] ≡ []
unfolding snapshot
snapshot_none = refl

snapshot_of_first : (e : ℕ × FeatureData) (m : FeatureMap) → snapshot (e ∷ m) ≡ entry_text e ++ snapshot m
unfolding snapshot
snapshot_of_first e m = refl

pub one_text : (e : ℕ × FeatureData) → snapshot (e ∷ []) ≡ entry_text e
one_text e = snapshot_of_first e [] ∙ ap (λ t. entry_text e ++ t) snapshot_none ∙ append-nil (entry_text e)

pub none_put : (front : List ℕ) → front ≡ front ++ snapshot []
none_put front = sym (ap (λ r. front ++ r) snapshot_none ∙ append-nil front)

-- the snapshot of a map, and then the text of one entry more
pub snapshot_more : (front : List ℕ) (m : FeatureMap) (e : ℕ × FeatureData) → (front ++ snapshot m) ++ entry_text e ≡ front ++ snapshot (m ++ e ∷ [])
unfolding snapshot
snapshot_more front m e = flat_map_more entry_text front m e

above_more : (n : ℕ) (m : FeatureMap) (e : ℕ × FeatureData) → AreAbove n m → n < e.0 → AreAbove n (m ++ e ∷ [])
above_more n [] e above low = (low, tt)
above_more n (d ∷ m) e above low = (above.0, above_more n m e above.1 low)

ascends_more : (m : FeatureMap) (e : ℕ × FeatureData) → Ascends m → IsBehind m e.0 → Ascends (m ++ e ∷ [])
ascends_more [] e ascends behind = ascends_cons e [] tt ascends
ascends_more (d ∷ m) e ascends behind =
    ascends_cons d (m ++ e ∷ []) (above_more d.0 m e (ascends_head d m ascends) (All-head (λ x. x.0 < e.0) d m behind))
    (ascends_more m e (ascends_tail d m ascends) (All-tail (λ x. x.0 < e.0) d m behind))

above_at : (n : ℕ) (m : FeatureMap) (e : ℕ × FeatureData) (tail : FeatureMap) → AreAbove n (m ++ e ∷ tail) → n < e.0
above_at n [] e tail above = above.0
above_at n (d ∷ m) e tail above = above_at n m e tail above.1

-- each number is greater than those before it
pub ascends_behind : (m : FeatureMap) (e : ℕ × FeatureData) (tail : FeatureMap) → Ascends (m ++ e ∷ tail) → IsBehind m e.0
ascends_behind [] e tail ascends = All-nil (λ x. x.0 < e.0)
ascends_behind (d ∷ m) e tail ascends =
    All-cons (λ x. x.0 < e.0) d m (above_at d.0 m e tail (ascends_head d (m ++ e ∷ tail) ascends))
    (ascends_behind m e tail (ascends_tail d (m ++ e ∷ tail) ascends))

-- a number above all others comes after them
set_behind : (m : FeatureMap) (id : ℕ) (f : FeatureData) → IsBehind m id → insert_entry nat_cmp m id f ≡ m ++ (id, f) ∷ []
set_behind [] id f behind = refl
set_behind (e ∷ m) id f behind =
    let here : e.0 < id = All-head (λ x. x.0 < id) e m behind in
    set_step id f e m Greater (greater id e.0 here) ∙ ap (λ n. e ∷ n) (set_behind m id f (All-tail (λ x. x.0 < id) e m behind))

pub with_behind : (m : FeatureMap) (id : ℕ) (f : FeatureData) → IsBehind m id → with_feature m id f ≡ m ++ (id, f) ∷ []
unfolding with_feature
with_behind m id f behind = set_behind m id f behind

-- ---- maps one after the other

pub All-front : {A : Type 0} (P : A → Type 0) (m n : List A) → All P (m ++ n) → All P m
All-front P [] n all = All-nil P
All-front P (e ∷ m) n all = All-cons P e m (All-head P e (m ++ n) all) (All-front P m n (All-tail P e (m ++ n) all))

pub All-behind : {A : Type 0} (P : A → Type 0) (m n : List A) → All P (m ++ n) → All P n
All-behind P [] n all = all
All-behind P (e ∷ m) n all = All-behind P m n (All-tail P e (m ++ n) all)

pub snapshot_both : (m n : FeatureMap) → snapshot (m ++ n) ≡ snapshot m ++ snapshot n
unfolding snapshot
snapshot_both m n = flat_map-append entry_text m n

-- the least number above all, with one entry more
pub end_behind : (m : FeatureMap) (e : ℕ × FeatureData) → IsBehind m e.0 → (id : ℕ) → (e.0 + 1 ≤ id) ↔ IsBehind (m ++ e ∷ []) id
end_behind m e behind id = (
  λ le. All-push (λ x. x.0 < id) m e (λ k d lt. let h = behind k d lt in omega arith) (omega arith),
  λ all.
      let last = all (length m) e (omega (arith, length-append m (e ∷ []))) in
      let at : get_or (m ++ e ∷ []) (length m) e ≡ e = (get_or_at_push m e).1 in
      let low : e.0 < id = subst (λ (x : ℕ × FeatureData). x.0 < id) at last in omega arith,
)

-- ---- what a text begins with

pub text_within : (e : ChangeData) (text : List ℕ) → BeginsWithChange e text → length (spelled_change e) ≤ length text
text_within e text begins = omega (arith, ap length begins.1.1, length-append (spelled_change e) begins.1.0)

-- what comes after the text of an edit
pub text_behind : (e : ChangeData) (text : List ℕ) (len : ℕ) → BeginsWithChange e text → len ≡ length (spelled_change e)
    → text ≡ spelled_change e ++ take (length text - len) (drop len text)
text_behind e text len begins long =
    let behind : drop len text ≡ begins.1.0 = ap (drop len) begins.1.1 ∙ drop_at (spelled_change e) begins.1.0 len (sym long) in
    let all = take_all (length text - len) (drop len text) (omega (arith, length-drop len text)) in
    begins.1.1 ∙ ap (λ r. spelled_change e ++ r) (sym (all ∙ behind))

-- what is told of a text that isn't decoded
pub not_decoded : {T : Type 0} (d memory : T) (r : SnapshotFault) (text : List ℕ) → (r ≡ Memory) ⊎ (r ≡ Bad) → (d ≡ memory → r ≡ Memory)
    → ((e : ℕ × FeatureData) → BeginsWithChange (put e.0 e.1) text → d ≡ memory)
    → (r ≡ Memory) ⊎ ((r ≡ Bad) × ((e : ℕ × FeatureData) → BeginsWithChange (put e.0 e.1) text → ⊥))
not_decoded d memory r text (inl out) told only = inl out
not_decoded d memory r text (inr bad) told only = inr (bad, λ e begins. let out = told (only e begins) in cc)

-- The text is the snapshot of these entries, and something is left: their numbers ascend, and they keep the limits.
pub record IsRead (m : FeatureMap) (rest text : List ℕ) : Type 0 where
  pub ascending : Ascends m
  pub edits : All IsEditOf m
  pub whole : text ≡ snapshot m ++ rest

pub none_read : (text : List ℕ) → IsRead [] text text
none_read text = record { ascending = ascends_none; edits = All-nil IsEditOf; whole = ap (λ t. t ++ text) (sym snapshot_none) }

pub one_read : (m : FeatureMap) (e : ℕ × FeatureData) (rest behind text : List ℕ) → IsRead m rest text → IsEditOf e → rest ≡ entry_text e ++ behind
    → IsBehind m e.0 → IsRead (m ++ e ∷ []) behind text
one_read m e rest behind text read is begins low = record {
  ascending = ascends_more m e read.ascending low;
  edits = All-push IsEditOf m e read.edits is;
  whole = read.whole ∙ ap (λ r. snapshot m ++ r) begins ∙ sym (append_assoc (snapshot m) (entry_text e) behind)
      ∙ ap (λ r. r ++ behind) (snapshot_more [] m e);
}

pub all_read : (m : FeatureMap) (rest text : List ℕ) → IsRead m rest text → length rest ≡ 0 → snapshot m ≡ text
all_read m rest text read none = sym (read.whole ∙ ap (λ r. snapshot m ++ r) (nil_from_length rest none) ∙ append-nil (snapshot m))

-- ---- what no text of a map begins with

-- what isn't empty has a byte
pub something_left : (n : ℕ) (empty : Bool) → empty ≡ (n == 0) → empty ≡ false → 0 < n
something_left n empty is not_so = grind (arith, nat_tests)

-- a map whose snapshot begins with these entries' begins with them, and what is left is the snapshot of the others
abbrev GoesOn : FeatureMap → List ℕ → FeatureMap → Type 0
GoesOn m rest n = (tail : FeatureMap) × (n ≡ m ++ tail) × (snapshot tail ≡ rest)

goes_on : (m n : FeatureMap) (rest : List ℕ) → All IsEditOf m → All IsEditOf n → snapshot n ≡ snapshot m ++ rest → GoesOn m rest n
goes_on [] n rest ms ns same = (n, refl, same ∙ ap (λ t. t ++ rest) snapshot_none)
goes_on (e ∷ m) [] rest ms ns same =
    absurd (omega (arith, ap length same, none_takes, length-append (snapshot (e ∷ m)) rest, snapshot_on e m, long_from (put e.0 e.1)))
goes_on (e ∷ m) (f ∷ n) rest ms ns same =
    let texts = sym (snapshot_of_first f n) ∙ same ∙ ap (λ t. t ++ rest) (snapshot_of_first e m) ∙ append_assoc (entry_text e) (snapshot m) rest in
    let both = one_change (put f.0 f.1) (put e.0 e.1) (snapshot n) (snapshot m ++ rest) (All-head IsEditOf f n ns) (All-head IsEditOf e m ms) texts in
    let first : f ≡ e = ap (set_by e) both.0 in
    let on = goes_on m n rest (All-tail IsEditOf e m ms) (All-tail IsEditOf f n ns) both.1 in
    (on.0, λ i. first i ∷ on.1 i, on.2)

-- what is left isn't empty, and begins with the text of no edit that sets a feature
pub no_text : (m : FeatureMap) (rest text : List ℕ) → IsRead m rest text → 0 < length rest
    → ((e : ℕ × FeatureData) → BeginsWithChange (put e.0 e.1) rest → ⊥) → IsNoSnapshot text
no_text m rest text read some none n is_map same =
    let on = goes_on m n rest read.edits is_map.edits (same ∙ read.whole) in
    by on.0 on.2 (All-behind IsEditOf m on.0 (subst (All IsEditOf) on.1 is_map.edits))
  where
    by : (tail : FeatureMap) → snapshot tail ≡ rest → All IsEditOf tail → ⊥
    by [] left all = omega (arith, ap length left, none_takes, some)
    by (e ∷ tail) left all = none e (All-head IsEditOf e tail all, (snapshot tail, sym left ∙ snapshot_of_first e tail))

-- what is told of what is left is told of the whole
pub not_read : (m : FeatureMap) (rest text : List ℕ) (d : SnapshotFault) → IsRead m rest text → 0 < length rest
    → (d ≡ Memory) ⊎ ((d ≡ Bad) × ((e : ℕ × FeatureData) → BeginsWithChange (put e.0 e.1) rest → ⊥)) → (d ≡ Memory) ⊎ ((d ≡ Bad) × IsNoSnapshot text)
not_read m rest text d read some (inl out) = inl out
not_read m rest text d read some (inr bad) = inr (bad.0, no_text m rest text read some bad.1)

-- what is left begins with the text of a number that isn't greater than all before
pub not_behind : (m : FeatureMap) (e : ℕ × FeatureData) (rest behind text : List ℕ) → IsRead m rest text → IsEditOf e → rest ≡ entry_text e ++ behind
    → (IsBehind m e.0 → ⊥) → IsNoSnapshot text
not_behind m e rest behind text read is begins low n is_map same =
    let on = goes_on m n rest read.edits is_map.edits (same ∙ read.whole) in
    by on.0 on.2 (All-behind IsEditOf m on.0 (subst (All IsEditOf) on.1 is_map.edits)) (subst Ascends on.1 is_map.ascending)
  where
    by : (tail : FeatureMap) → snapshot tail ≡ rest → All IsEditOf tail → Ascends (m ++ tail) → ⊥
    by [] left all ascends =
        omega (arith, ap length left, none_takes, ap length begins, length-append (entry_text e) behind, long_from (put e.0 e.1))
    by (f ∷ tail) left all ascends =
        let both = one_change (put f.0 f.1) (put e.0 e.1) (snapshot tail) behind (All-head IsEditOf f tail all) is
        (sym (snapshot_of_first f tail) ∙ left ∙ begins) in
        let first : f ≡ e = ap (set_by e) both.0 in
        low (ascends_behind m e tail (subst (λ x. Ascends (m ++ x ∷ tail)) first ascends))
