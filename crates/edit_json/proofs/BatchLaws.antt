-- A value is the value of one edit, or has a first fault, and never both.
use Rattle.std.proofs.Common.{◌≡◌, ◌≢◌, ◌⊎◌, inl, inr, ⊎_elim, ℕ, ◌+◌, ◌<◌, List, [], ◌∷◌, ◌++◌, length, get_or, map, take, All}
use Rattle.std.proofs.Common.{refl, sym, ap, subst, ◌∙◌, arith}
use Rattle.std.proofs.lemmas.Bool.{cases_eq}
use Rattle.std.proofs.lemmas.List.{get_or-map, get_or_default, length-map, map-append, map_more, take-map}
use Rattle.std.proofs.lemmas.List.Elements.{All-head, All-tail, All-map}
use Rattle.serde_json.specs.Data.{Data}
use Rattle.serde_json.specs.View.{view}
use Rattle.serde_json.specs.declared.value.Value.{Value}
use Rattle.feature_model.specs.declared.fault.EditFault.{EditFault}
use Rattle.feature_model.specs.declared.fault.EditFault.TheVariants as faults
use Rattle.feature_model.specs.Data.{FeatureData, ChangeData, put, delete, EditData, number_of}
use Rattle.feature_model.specs.Limits.{AreEnough, AreDistinct}
use Rattle.edit_json.specs.declared.batches.Asked.{Asked}
use Rattle.edit_json.specs.Asked.{asked_data}
use Rattle.edit_json.specs.Json.{name_bytes, outline_of, json_of}
use Rattle.edit_json.specs.Faults.{IsFeature}
use Rattle.edit_json.specs.Batches.{AskedData, put_asked, delete_asked, asked_number, asked_json, asked_of, list_json, asks_json}
use Rattle.edit_json.specs.Batches.{IsJsonChange, IsBatch, HasMembers, Asks, BeginsAsked, NumbersDiffer}
use Rattle.edit_json.specs.Batches.{IsSound, IsFirstAskedFault, IsFirstAsked, IsFirstBatchFault}
use Rattle.edit_json.proofs.FaultLaws.{feature-one, feature-faultless}
use Rattle.edit_json.proofs.ListLaws.{list-one, all-one, begins-there}

-- ---- a value asks for one list of changes

asked-one : (a b : AskedData) → asked_json a ≡ asked_json b → a ≡ b
unfolding name_bytes
asked-one (put_asked id d) (put_asked n e) same = cc
asked-one (put_asked id d) (delete_asked n) same = cc
asked-one (delete_asked id) (put_asked n e) same = cc
asked-one (delete_asked id) (delete_asked n) same = cc

pub asks-one : (d : Data) (ys bs : List AskedData) → d ≡ asks_json ys → d ≡ asks_json bs → ys ≡ bs
asks-one d ys bs is too = all-one asked_json asked-one ys bs (list-one (map asked_json ys) (map asked_json bs) (sym is ∙ too))

-- ---- and is the value of one edit

change-one : (c e : ChangeData) → IsJsonChange c → IsJsonChange e → asked_of c ≡ asked_of e → c ≡ e
change-one (put id f) (put n g) is too same =
    let number : id ≡ n = cc in
    let value : json_of f ≡ json_of g = cc in
    let feature = feature-one (json_of f) f g is.1 (subst (λ d. IsFeature d g) (sym value) too.1) in
    λ i. put (number i) (feature i)
change-one (put id f) (delete n) is too same = absurd (cc)
change-one (delete id) (put n g) is too same = absurd (cc)
change-one (delete id) (delete n) is too same = cc

changes-one : (cs es : EditData) → All IsJsonChange cs → All IsJsonChange es → map asked_of cs ≡ map asked_of es → cs ≡ es
changes-one [] [] are too same = refl
changes-one [] (e ∷ es) are too same = absurd (cc)
changes-one (c ∷ cs) [] are too same = absurd (cc)
changes-one (c ∷ cs) (e ∷ es) are too same =
    let first : asked_of c ≡ asked_of e = cc in
    let rest : map asked_of cs ≡ map asked_of es = cc in
    let one = change-one c e (All-head IsJsonChange c cs are) (All-head IsJsonChange e es too) first in
    let more = changes-one cs es (All-tail IsJsonChange c cs are) (All-tail IsJsonChange e es too) rest in
    λ i. one i ∷ more i

pub batch-one : (d : Data) (cs es : EditData) → IsBatch d cs → IsBatch d es → cs ≡ es
batch-one d cs es is too = changes-one cs es is.each too.each (asks-one d (map asked_of cs) (map asked_of es) is.is too.is)

-- ---- numbers

abbrev pub DifferTo : ℕ → List ℕ → Type 0
DifferTo i ns = (k d : ℕ) → k < i → k < length ns → All (λ n. n ≢ get_or ns k d) (take k ns)

differ-step : (i : ℕ) (ns : List ℕ) (x : ℕ) → i < length ns → x ≡ get_or ns i x → All (λ n. n ≢ x) (take i ns) → DifferTo i ns → DifferTo (i + 1) ns
differ-step i ns x l is new so_far k d lt within = ⊎_elim
    (λ (same : k ≡ i). subst (λ m. All (λ n. n ≢ get_or ns m d) (take m ns)) (sym same)
    (subst (λ y. All (λ n. n ≢ y) (take i ns)) (is ∙ get_or_default ns i x d l) new))
    (λ (apart : k ≡ i → ⊥). so_far k d (omega (arith, lt, apart)) within)
    (cases_eq k i)

pub differ-at : (i : ℕ) (ns : List ℕ) → i < length ns → All (λ n. n ≢ get_or ns i 0) (take i ns) → DifferTo i ns → DifferTo (i + 1) ns
differ-at i ns l new so_far = differ-step i ns (get_or ns i 0) l (get_or_default ns i 0 (get_or ns i 0) l) new so_far

pub not-differ-at : (i : ℕ) (ns : List ℕ) → i < length ns → (All (λ n. n ≢ get_or ns i 0) (take i ns) → ⊥) → NumbersDiffer ns → ⊥
not-differ-at i ns l twice differ = twice (differ i 0 l)

asked-number : (c : ChangeData) → asked_number (asked_of c) ≡ number_of c
asked-number (put id f) = refl
asked-number (delete id) = refl

pub numbers-of : (cs : EditData) → map asked_number (map asked_of cs) ≡ map number_of cs
numbers-of [] = refl
numbers-of (c ∷ cs) = let first = asked-number c in let rest = numbers-of cs in λ i. first i ∷ rest i

-- the number at an index is that of the change there
number-at : (cs : EditData) (k d : ℕ) → k < length cs → get_or (map number_of cs) k d ≡ number_of (get_or cs k (delete d))
number-at cs k d l = get_or-map number_of cs k (delete d) d l

differ-from : (cs : EditData) → AreDistinct cs → NumbersDiffer (map number_of cs)
differ-from cs distinct k d l =
    let within : k < length cs = omega (arith, l, length-map cs number_of) in
    subst (λ y. All (λ n. n ≢ y) (take k (map number_of cs))) (sym (number-at cs k d within))
    (subst (λ ns. All (λ n. n ≢ number_of (get_or cs k (delete d))) ns) (sym (take-map number_of k cs))
    (All-map (λ n. n ≢ number_of (get_or cs k (delete d))) number_of (take k cs) (distinct k (delete d) within)))

pub differ-asked : (cs : EditData) → AreDistinct cs → NumbersDiffer (map asked_number (map asked_of cs))
differ-asked cs distinct = subst NumbersDiffer (sym (numbers-of cs)) (differ-from cs distinct)

distinct-from : (cs : EditData) → NumbersDiffer (map number_of cs) → AreDistinct cs
distinct-from cs differ k c l j e lj =
    let d = number_of c in
    let here : get_or (map number_of cs) k d ≡ number_of (get_or cs k c) = get_or-map number_of cs k c d l in
    let inside : k < length (map number_of cs) = omega (arith, l, length-map cs number_of) in
    let taken : map number_of (take k cs) ≡ take k (map number_of cs) = sym (take-map number_of k cs) in
    let all : All (λ n. n ≢ get_or (map number_of cs) k d) (map number_of (take k cs)) =
    subst (λ ns. All (λ n. n ≢ get_or (map number_of cs) k d) ns) (sym taken) (differ k d inside) in
    let there : get_or (map number_of (take k cs)) j (number_of e) ≡ number_of (get_or (take k cs) j e) =
    get_or-map number_of (take k cs) j e (number_of e) lj in
    λ same. all j (number_of e) (omega (arith, lj, length-map (take k cs) number_of)) (there ∙ same ∙ sym here)

pub distinct-asked : (cs : EditData) → NumbersDiffer (map asked_number (map asked_of cs)) → AreDistinct cs
distinct-asked cs differ = distinct-from cs (subst NumbersDiffer (numbers-of cs) differ)

-- ---- an edit's value has no fault

has-members : (c : ChangeData) → IsJsonChange c → HasMembers (asked_of c)
has-members (put id f) is = (outline_of f, record { is = refl; low = omega (arith, is.1.zooms); high = omega (arith, is.1.zooms) })
has-members (delete id) is = tt

batch-asks : (d : Data) (cs : EditData) → IsBatch d cs → Asks d (map asked_of cs)
batch-asks d cs is = record { is = is.is; members = All-map HasMembers asked_of cs (λ k c l. has-members (get_or cs k c) (is.each k c l)) }

-- what is said of a list that is asked for holds of the edit's
asked-by : (d : Data) (cs : EditData) (P : List AskedData → Type 0) → IsBatch d cs → (ys : List AskedData) → Asks d ys → P ys → P (map asked_of cs)
asked-by d cs P is ys asks holds = subst P (asks-one d ys (map asked_of cs) asks.is is.is) holds

change-faultless : (c : ChangeData) (e : EditFault) → IsJsonChange c → IsFirstAskedFault (asked_of c) e → ⊥
change-faultless (put id f) faults.Member is h = let m = feature-faultless (json_of f) f faults.Member is.1 h.1 in absurd (cc)
change-faultless (put id f) faults.Number is h = h is.0
change-faultless (put id f) faults.Memory is h = h
change-faultless (put id f) faults.Layer is h = let m = feature-faultless (json_of f) f faults.Layer is.1 h.1 in absurd (cc)
change-faultless (put id f) faults.Zoom is h = let m = feature-faultless (json_of f) f faults.Zoom is.1 h.1 in absurd (cc)
change-faultless (put id f) faults.Geometry is h = let m = feature-faultless (json_of f) f faults.Geometry is.1 h.1 in absurd (cc)
change-faultless (put id f) faults.Tags is h = let m = feature-faultless (json_of f) f faults.Tags is.1 h.1 in absurd (cc)
change-faultless (put id f) faults.Value is h = let m = feature-faultless (json_of f) f faults.Value is.1 h.1 in absurd (cc)
change-faultless (put id f) _ is h = h.1
change-faultless (delete id) faults.Number is h = h is
change-faultless (delete id) _ is h = h

change-there : (cs : EditData) (i : ℕ) (a : AskedData) → i < length (map asked_of cs) → get_or (map asked_of cs) i a ≡ a → All IsJsonChange cs
    → (e : EditFault) → IsFirstAskedFault a e → ⊥
change-there cs i a l is are e h =
    let within : i < length cs = omega (arith, l, length-map cs asked_of) in
    let here : a ≡ asked_of (get_or cs i (delete 0)) = sym is ∙ get_or-map asked_of cs i (delete 0) a within in
    change-faultless (get_or cs i (delete 0)) e (are i (delete 0) within) (subst (λ x. IsFirstAskedFault x e) here h)

first-asked : (d : Data) (cs : EditData) (e : EditFault) → IsBatch d cs → (ys : List AskedData) → Asks d ys → IsFirstAsked ys e → ⊥
first-asked d cs e is ys asks first =
    let mine = asked-by d cs (λ bs. IsFirstAsked bs e) is ys asks first in
    change-there cs mine.index mine.asked mine.within mine.is is.each e mine.fault_is

pub batch-faultless : (d : Data) (cs : EditData) (e : EditFault) → IsBatch d cs → IsFirstBatchFault d e → e ≡ faults.Memory
batch-faultless d cs faults.Member is h = absurd (h (map asked_of cs) (batch-asks d cs is))
batch-faultless d cs faults.Batch is h =
    let few = asked-by d cs (λ ys. ¬ AreEnough (length ys)) is h.0 h.1 h.2 in
    absurd (few (subst AreEnough (sym (length-map cs asked_of)) is.count))
batch-faultless d cs faults.Twice is h =
    let twice = asked-by d cs (λ ys. AreEnough (length ys) × ¬ NumbersDiffer (map asked_number ys)) is h.0 h.1 h.2 in
    absurd (twice.1 (differ-asked cs is.distinct))
batch-faultless d cs faults.Memory is h = refl
batch-faultless d cs e is h = absurd (first-asked d cs e is h.0 h.1 h.2.2)

-- ---- what the reader's loops keep

pub asked-more : (xs : List Asked) (i : ℕ) (x : Asked) (ns : List ℕ) → i < length xs → x ≡ get_or xs i x
    → ns ≡ map asked_number (map asked_data (take i xs)) → ns ++ asked_number (asked_data x) ∷ [] ≡ map asked_number (map asked_data (take (i + 1) xs))
asked-more xs i x ns l is so_far =
    ap (λ ms. ms ++ asked_number (asked_data x) ∷ []) so_far
    ∙ sym (map-append asked_number (map asked_data (take i xs)) (asked_data x ∷ []))
    ∙ ap (map asked_number) (ap (λ y. map asked_data (take i xs) ++ asked_data y ∷ []) is ∙ sym (map_more asked_data xs i x l))

pub changes-more : (xs : List Asked) (i : ℕ) (x : Asked) (cs : EditData) (c : ChangeData) → i < length xs → x ≡ get_or xs i x
    → asked_data x ≡ asked_of c → map asked_data (take i xs) ≡ map asked_of cs → map asked_data (take (i + 1) xs) ≡ map asked_of (cs ++ c ∷ [])
changes-more xs i x cs c l is here so_far =
    map_more asked_data xs i x l ∙ ap (λ ys. ys ++ asked_data (get_or xs i x) ∷ []) so_far
    ∙ ap (λ a. map asked_of cs ++ a ∷ []) (ap asked_data (sym is) ∙ here) ∙ sym (map-append asked_of cs (c ∷ []))

sound-each : (cs : EditData) → All IsJsonChange cs → All IsSound (map asked_of cs)
sound-each cs are = All-map IsSound asked_of cs (λ k c l. (get_or cs k c, refl, are k c l))

-- the first that can't be read
pub first-there : (xs : List Asked) (i : ℕ) (x : Asked) (cs : EditData) (e : EditFault) → i < length xs → x ≡ get_or xs i x
    → map asked_data (take i xs) ≡ map asked_of cs → All IsJsonChange cs → IsFirstAskedFault (asked_data x) e → IsFirstAsked (map asked_data xs) e
first-there xs i x cs e l is so_far are h = record {
  index = i;
  asked = asked_data x;
  within = omega (arith, l, length-map xs asked_data);
  is = get_or-map asked_data xs i x (asked_data x) l ∙ ap asked_data (sym is);
  before = subst (All IsSound) (sym so_far ∙ sym (take-map asked_data i xs)) (sound-each cs are);
  fault_is = h;
}

-- ---- what the reader returns

pub sound-put : (id : ℕ) (d : Data) (f : FeatureData) → IsFeature d f → IsFeature (json_of f) f
sound-put id d f is = subst (λ e. IsFeature e f) is.is is

pub batch-found : (d : Data) (ys : List AskedData) (cs : EditData) → d ≡ asks_json ys → ys ≡ map asked_of cs → AreEnough (length ys)
    → NumbersDiffer (map asked_number ys) → All IsJsonChange cs → IsBatch d cs
batch-found d ys cs is are enough differ each = record {
  is = is ∙ ap asks_json are;
  count = subst AreEnough (ap length are ∙ length-map cs asked_of) enough;
  distinct = distinct-asked cs (subst (λ bs. NumbersDiffer (map asked_number bs)) are differ);
  each = each;
}

pub none-asked : (d : Data) (ds : List Data) → d ≡ list_json ds → ((ys : List AskedData) → ds ≡ map asked_json ys → All HasMembers ys → ⊥)
    → (ys : List AskedData) → ¬ Asks d ys
none-asked d ds is none ys asks = none ys (list-one ds (map asked_json ys) (sym is ∙ asks.is)) asks.members

member-never : (a : AskedData) → HasMembers a → IsFirstAskedFault a faults.Member → ⊥
member-never (put_asked id d) has h = h.1 has.0 has.1
member-never (delete_asked id) has h = h

batch-never : (a : AskedData) → IsFirstAskedFault a faults.Batch → ⊥
batch-never (put_asked id d) h = h.1
batch-never (delete_asked id) h = h

twice-never : (a : AskedData) → IsFirstAskedFault a faults.Twice → ⊥
twice-never (put_asked id d) h = h.1
twice-never (delete_asked id) h = h

memory-never : (a : AskedData) → IsFirstAskedFault a faults.Memory → ⊥
memory-never (put_asked id d) h = h
memory-never (delete_asked id) h = h

pub first-fault : (d : Data) (ys : List AskedData) (e : EditFault) → Asks d ys → AreEnough (length ys) → NumbersDiffer (map asked_number ys)
    → IsFirstAsked ys e → IsFirstBatchFault d e
first-fault d ys faults.Member asks enough differ first =
    absurd (member-never first.asked (subst HasMembers first.is (asks.members first.index first.asked first.within)) first.fault_is)
first-fault d ys faults.Batch asks enough differ first = absurd (batch-never first.asked first.fault_is)
first-fault d ys faults.Twice asks enough differ first = absurd (twice-never first.asked first.fault_is)
first-fault d ys faults.Memory asks enough differ first = absurd (memory-never first.asked first.fault_is)
first-fault d ys e asks enough differ first = (ys, asks, (enough, differ, first))

-- what was read of a list, and what follows from it
module _ (d : Data) (xs : List Asked) (is : d ≡ asks_json (map asked_data xs)) (members : All HasMembers (map asked_data xs)) where
  asks-read : Asks d (map asked_data xs)
  asks-read = record { is = is; members = members }

  pub few-refused : (AreEnough (length xs) → ⊥) → IsFirstBatchFault d faults.Batch
  few-refused few = (map asked_data xs, asks-read, λ enough. few (subst AreEnough (length-map xs asked_data) enough))

  module _ (enough : AreEnough (length xs)) where
    pub memory-refused : IsFirstBatchFault d faults.Memory
    memory-refused =
        let some : 0 < length (map asked_data xs) = omega (arith, enough, length-map xs asked_data) in
        (map asked_json (map asked_data xs), is, begins-there asked_json HasMembers (map asked_data xs) members some)

    enough-asked : AreEnough (length (map asked_data xs))
    enough-asked = subst AreEnough (sym (length-map xs asked_data)) enough

    module _ (ns : List ℕ) (numbers : ns ≡ map asked_number (map asked_data xs)) where
      pub twice-refused : (NumbersDiffer ns → ⊥) → IsFirstBatchFault d faults.Twice
      twice-refused twice = (map asked_data xs, asks-read, (enough-asked, λ differ. twice (subst NumbersDiffer (sym numbers) differ)))

      module _ (differ : NumbersDiffer ns) where
        differ-there : NumbersDiffer (map asked_number (map asked_data xs))
        differ-there = subst NumbersDiffer numbers differ

        pub change-refused : (e : EditFault) → (e ≡ faults.Memory) ⊎ IsFirstAsked (map asked_data xs) e → IsFirstBatchFault d e
        change-refused e (inl memory) = subst (IsFirstBatchFault d) (sym memory) memory-refused
        change-refused e (inr first) = first-fault d (map asked_data xs) e asks-read enough-asked differ-there first

        pub batch-read : (cs : EditData) → map asked_data xs ≡ map asked_of cs → All IsJsonChange cs → IsBatch d cs
        batch-read cs are each = batch-found d (map asked_data xs) cs (asks-read.is) are enough-asked differ-there each

-- a list that isn't read
pub list-refused : (d : Data) (vs : List Value) (e : EditFault) → d ≡ list_json (map view vs)
    → ((e ≡ faults.Memory) × BeginsAsked (map view vs))
    ⊎ ((e ≡ faults.Member) × ((ys : List AskedData) → map view vs ≡ map asked_json ys → All HasMembers ys → ⊥)) → IsFirstBatchFault d e
list-refused d vs e is (inl memory) = subst (IsFirstBatchFault d) (sym memory.0) (map view vs, is, memory.1)
list-refused d vs e is (inr none) = subst (IsFirstBatchFault d) (sym none.0) (none-asked d (map view vs) is none.1)
