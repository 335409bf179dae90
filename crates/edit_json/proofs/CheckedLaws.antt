-- A value is the value of one checked edit, or has a first fault, and never both.
use Rattle.std.proofs.Common.{◌≡◌, ◌≢◌, ◌⊎◌, inl, inr, ℕ, suc, ◌+◌, ◌<◌, List, [], ◌∷◌, ◌++◌, length, get_or, map, take, All}
use Rattle.std.proofs.Common.{Option, Some, None, refl, sym, ap, subst, ◌∙◌, arith}
use Rattle.std.proofs.Math.ListN.{drop}
use Rattle.std.proofs.Math.Seq.{drop-cons}
use Rattle.std.proofs.lemmas.List.{length-map, map-append, map_more, take-append-drop}
use Rattle.std.proofs.lemmas.List.Elements.{All-nil, All-cons, All-head, All-tail, All-map}
use Rattle.serde_json.specs.Data.{Data, null}
use Rattle.feature_model.specs.declared.fault.EditFault.{EditFault}
use Rattle.feature_model.specs.declared.fault.EditFault.TheVariants as faults
use Rattle.feature_model.specs.Data.{FeatureData, EditData, number_of}
use Rattle.feature_model.specs.Seen.{SeenData}
use Rattle.edit_json.specs.declared.checked.Checked.{Checked}
use Rattle.edit_json.specs.Asked.{asked_data}
use Rattle.edit_json.specs.Json.{name_bytes}
use Rattle.edit_json.specs.Faults.{IsFirstJsonFault}
use Rattle.edit_json.specs.Batches.{AskedData, put_asked, delete_asked, asked_number, asked_of, list_json, IsBatch, HasMembers, Asks, Begins, IsFirstBatchFault}
use Rattle.edit_json.specs.Checked.{CheckedData, checked_data, with_was, checked_json, HasCheckedMembers, checks_json, AsksChecked, plain, plain_json}
use Rattle.edit_json.specs.Checked.{IsWas, Were, IsChecked, IsFirstWas, BeginsChecked, IsFirstCheckedFault}
use Rattle.edit_json.proofs.FaultLaws.{feature-one, feature-faultless}
use Rattle.edit_json.proofs.ListLaws.{list-one, all-one, begins-there}
use Rattle.edit_json.proofs.BatchLaws.{asks-one, batch-one, batch-faultless, numbers-of}

-- ---- a value asks for one list of changes

with-one : (a b : AskedData) (w v : Data) → with_was a w ≡ with_was b v → (a ≡ b) × (w ≡ v)
unfolding name_bytes
with-one (put_asked id d) (put_asked n e) w v same = (cc, cc)
with-one (put_asked id d) (delete_asked n) w v same = absurd (cc)
with-one (delete_asked id) (put_asked n e) w v same = absurd (cc)
with-one (delete_asked id) (delete_asked n) w v same = (cc, cc)

checked-one : (x z : CheckedData) → checked_json x ≡ checked_json z → x ≡ z
checked-one x z same =
    let one = with-one x.asked z.asked x.was z.was same in
    λ i. record { asked = one.0 i; was = one.1 i }

checks-one : (d : Data) (xs zs : List CheckedData) → AsksChecked d xs → AsksChecked d zs → xs ≡ zs
checks-one d xs zs is too = all-one checked_json checked-one xs zs (list-one (map checked_json xs) (map checked_json zs) (sym is.is ∙ too.is))

-- ---- and is the value of one edit

was-one : (w : Data) (o p : Option FeatureData) → IsWas w o → IsWas w p → o ≡ p
was-one w None None is too = refl
was-one w None (Some g) is too = let same = sym is ∙ too.is in absurd (cc)
was-one w (Some f) None is too = let same = sym too ∙ is.is in absurd (cc)
was-one w (Some f) (Some g) is too = ap (λ h. Some h) (feature-one w f g is too)

were-one : (xs : List CheckedData) (all other : List SeenData) → Were xs all → Were xs other → all ≡ other
were-one [] [] [] is too = refl
were-one [] [] (t ∷ other) is too = absurd too
were-one [] (s ∷ all) other is too = absurd is
were-one (x ∷ xs) [] other is too = absurd is
were-one (x ∷ xs) (s ∷ all) [] is too = absurd too
were-one (x ∷ xs) (s ∷ all) (t ∷ other) is too =
    let number = is.0 ∙ sym too.0 in
    let feature = was-one x.was s.feature t.feature is.1 too.1 in
    let more = were-one xs all other is.2 too.2 in
    λ i. record { id = number i; feature = feature i } ∷ more i

pub checked-edit-one : (d : Data) (cs es : EditData) (all other : List SeenData) → IsChecked d cs all → IsChecked d es other
    → (cs ≡ es) × (all ≡ other)
checked-edit-one d cs es all other is too =
    let same = checks-one d too.asked is.asked too.is is.is in (
      batch-one (plain_json is.asked) cs es is.batch (subst (λ xs. IsBatch (plain_json xs) es) same too.batch),
      were-one is.asked all other is.were (subst (λ xs. Were xs other) same too.were),
    )

-- ---- and of the numbers of what was seen

were-numbers : (xs : List CheckedData) (all : List SeenData) → Were xs all → map asked_number (plain xs) ≡ map (λ s. s.id) all
were-numbers [] [] were = refl
were-numbers [] (s ∷ all) were = absurd were
were-numbers (x ∷ xs) [] were = absurd were
were-numbers (x ∷ xs) (s ∷ all) were =
    let more = were-numbers xs all were.2 in
    λ i. sym were.0 i ∷ more i

-- what was seen is that of the numbers that are changed
pub checked-numbers : (d : Data) (cs : EditData) (all : List SeenData) → IsChecked d cs all → map number_of cs ≡ map (λ s. s.id) all
checked-numbers d cs all is =
    sym (numbers-of cs) ∙ ap (map asked_number) (sym (asks-one (plain_json is.asked) (plain is.asked) (map asked_of cs) refl is.batch.is))
    ∙ were-numbers is.asked all is.were

-- ---- what the reader's loops keep

-- one more change without what was seen
pub plain-more : (cs : List Checked) (i : ℕ) (c : Checked) (ys : List AskedData) → i < length cs → c ≡ get_or cs i c
    → ys ≡ plain (map checked_data (take i cs)) → ys ++ asked_data c.asked ∷ [] ≡ plain (map checked_data (take (i + 1) cs))
plain-more cs i c ys l is so_far =
    ap (λ zs. zs ++ asked_data c.asked ∷ []) so_far
    ∙ sym (map-append (λ x. x.asked) (map checked_data (take i cs)) (checked_data c ∷ []))
    ∙ ap plain (ap (λ x. map checked_data (take i cs) ++ checked_data x ∷ []) is ∙ sym (map_more checked_data cs i c l))

pub were-more : (xs : List CheckedData) (all : List SeenData) (x : CheckedData) (s : SeenData) → s.id ≡ asked_number x.asked → IsWas x.was s.feature
    → Were xs all → Were (xs ++ x ∷ []) (all ++ s ∷ [])
were-more [] [] x s number was so_far = (number, was, tt)
were-more [] (t ∷ all) x s number was so_far = absurd so_far
were-more (z ∷ xs) [] x s number was so_far = absurd so_far
were-more (z ∷ xs) (t ∷ all) x s number was so_far = (so_far.0, so_far.1, were-more xs all x s number was so_far.2)

abbrev pub Sound : CheckedData → Type 0
Sound x = (o : Option FeatureData) × IsWas x.was o

were-sound : (xs : List CheckedData) (all : List SeenData) → Were xs all → All Sound xs
were-sound [] all were = All-nil Sound
were-sound (x ∷ xs) [] were = absurd were
were-sound (x ∷ xs) (s ∷ all) were = All-cons Sound x xs (s.feature, were.1) (were-sound xs all were.2)

module _ (cs : List Checked) (i : ℕ) (c : Checked) (l : i < length cs) (is : c ≡ get_or cs i c) (all : List SeenData)
    (so_far : Were (map checked_data (take i cs)) all) where
  -- what was seen of one more number
  pub were-read : (s : SeenData) → s.id ≡ asked_number (asked_data c.asked) → IsWas (checked_data c).was s.feature
      → Were (map checked_data (take (i + 1) cs)) (all ++ s ∷ [])
  were-read s number was =
      subst (λ xs. Were xs (all ++ s ∷ [])) (ap (λ x. map checked_data (take i cs) ++ checked_data x ∷ []) is ∙ sym (map_more checked_data cs i c l))
      (were-more (map checked_data (take i cs)) all (checked_data c) s number was so_far)

  -- the list in three parts
  parted : map checked_data cs ≡ map checked_data (take i cs) ++ checked_data c ∷ map checked_data (drop (suc i) cs)
  parted =
      ap (map checked_data) (sym (take-append-drop i cs)) ∙ map-append checked_data (take i cs) (drop i cs)
      ∙ ap (λ ys. map checked_data (take i cs) ++ map checked_data ys) (drop-cons cs i c l)
      ∙ ap (λ y. map checked_data (take i cs) ++ checked_data y ∷ map checked_data (drop (suc i) cs)) (sym is)

  -- the first that is neither null nor a feature
  pub first-was : (e : EditFault) → (checked_data c).was ≢ null → IsFirstJsonFault (checked_data c).was e → IsFirstWas (map checked_data cs) e
  first-was e other fault = record {
    before = map checked_data (take i cs);
    checked = checked_data c;
    rest = map checked_data (drop (suc i) cs);
    is = parted;
    sound = were-sound (map checked_data (take i cs)) all so_far;
    other = other;
    fault_is = fault;
  }

-- ---- faults

pub plain-members : (xs : List CheckedData) → All HasCheckedMembers xs → All HasMembers (plain xs)
plain-members xs members = All-map HasMembers (λ x. x.asked) xs (λ k x l. (members k x l).0)

plain-asks : (d : Data) (xs : List CheckedData) → AsksChecked d xs → Asks (plain_json xs) (plain xs)
plain-asks d xs asks = record { is = refl; members = plain-members xs asks.members }

begins-checked : (d : Data) (xs : List CheckedData) → AsksChecked d xs → 0 < length xs → BeginsChecked d
begins-checked d xs asks some = (map checked_json xs, asks.is, begins-there checked_json HasCheckedMembers xs asks.members some)

some-plain : (xs : List CheckedData) → IsFirstBatchFault (plain_json xs) faults.Memory → 0 < length xs
some-plain [] h = let none = list-one [] h.0 h.1 ∙ h.2.2 in absurd (cc)
some-plain (x ∷ xs) h = omega arith

some-batch : (xs : List CheckedData) (cs : EditData) → IsBatch (plain_json xs) cs → 0 < length xs
some-batch xs cs batch =
    let same = ap length (asks-one (plain_json xs) (plain xs) (map asked_of cs) refl batch.is) in
    omega (arith, batch.count, same, length-map xs (λ x. x.asked), length-map cs asked_of)

all-there : (P : CheckedData → Type 0) (before : List CheckedData) (x : CheckedData) (rest : List CheckedData) → All P (before ++ x ∷ rest) → P x
all-there P [] x rest all = All-head P x rest all
all-there P (b ∷ before) x rest all = all-there P before x rest (All-tail P b (before ++ x ∷ rest) all)

-- a value with its members has them
was-member : (d : Data) (xs : List CheckedData) → AsksChecked d xs → IsFirstWas xs faults.Member → ⊥
was-member d xs asks first = elim (all-there HasCheckedMembers first.before first.checked first.rest
    (subst (All HasCheckedMembers) first.is asks.members)).1 [
      | inl same ↦ first.other same
      | inr has ↦ first.fault_is has.0 has.1
    ]

-- the members of all are there, and the fault is that of the changes without what was seen
pub plain-refused : (d : Data) (xs : List CheckedData) (e : EditFault) → AsksChecked d xs → IsFirstBatchFault (plain_json xs) e → IsFirstCheckedFault d e
plain-refused d xs faults.Member asks h = absurd (h (plain xs) (plain-asks d xs asks))
plain-refused d xs faults.Memory asks h = begins-checked d xs asks (some-plain xs h)
plain-refused d xs e asks h = (xs, asks, inl h)

first-refused : (d : Data) (xs : List CheckedData) (cs : EditData) (e : EditFault) → AsksChecked d xs → IsBatch (plain_json xs) cs → IsFirstWas xs e
    → IsFirstCheckedFault d e
first-refused d xs cs faults.Member asks batch first = absurd (was-member d xs asks first)
first-refused d xs cs faults.Memory asks batch first = begins-checked d xs asks (some-batch xs cs batch)
first-refused d xs cs e asks batch first = (xs, asks, inr (cs, batch, first))

-- they have none, and the fault is that of what was seen
pub was-refused : (d : Data) (xs : List CheckedData) (cs : EditData) (e : EditFault) → AsksChecked d xs → IsBatch (plain_json xs) cs
    → (e ≡ faults.Memory) ⊎ IsFirstWas xs e → IsFirstCheckedFault d e
was-refused d xs cs e asks batch (inl memory) =
    subst (IsFirstCheckedFault d) (sym memory) (begins-checked d xs asks (some-batch xs cs batch))
was-refused d xs cs e asks batch (inr first) = first-refused d xs cs e asks batch first

pub memory-asked : (cs : List Checked) → All HasCheckedMembers (map checked_data cs) → 0 < length cs
    → IsFirstCheckedFault (checks_json (map checked_data cs)) faults.Memory
memory-asked cs members some = begins-checked (checks_json (map checked_data cs)) (map checked_data cs) (record { is = refl; members = members })
    (omega (arith, some, length-map cs checked_data))

-- ---- the value of a checked edit has no fault

was-faultless : (w : Data) (o : Option FeatureData) (e : EditFault) → IsWas w o → w ≢ null → IsFirstJsonFault w e → e ≡ faults.Memory
was-faultless w None e is other fault = absurd (other is)
was-faultless w (Some f) e is other fault = feature-faultless w f e is fault

were-faultless : (xs : List CheckedData) (all : List SeenData) (e : EditFault) → Were xs all → IsFirstWas xs e → e ≡ faults.Memory
were-faultless xs all e were first =
    let there = all-there Sound first.before first.checked first.rest (subst (All Sound) first.is (were-sound xs all were)) in
    was-faultless first.checked.was there.0 e there.1 first.other first.fault_is

first-faultless : (d : Data) (cs : EditData) (all : List SeenData) (e : EditFault) (is : IsChecked d cs all) (xs : List CheckedData) → xs ≡ is.asked
    → IsFirstBatchFault (plain_json xs) e ⊎ ((es : EditData) × IsBatch (plain_json xs) es × IsFirstWas xs e) → e ≡ faults.Memory
first-faultless d cs all e is xs same (inl plain) =
    batch-faultless (plain_json is.asked) cs e is.batch (subst (λ zs. IsFirstBatchFault (plain_json zs) e) same plain)
first-faultless d cs all e is xs same (inr was) =
    were-faultless is.asked all e is.were (subst (λ zs. IsFirstWas zs e) same was.2)

pub checked-faultless : (d : Data) (cs : EditData) (all : List SeenData) (e : EditFault) → IsChecked d cs all → IsFirstCheckedFault d e
    → e ≡ faults.Memory
checked-faultless d cs all faults.Member is h = absurd (h is.asked is.is)
checked-faultless d cs all faults.Memory is h = refl
checked-faultless d cs all e is h = first-faultless d cs all e is h.0 (checks-one d h.0 is.asked h.1 is.is) h.2

-- ---- a list that isn't read

pub checks-refused : (d : Data) (ds : List Data) (e : EditFault) → d ≡ list_json ds
    → ((e ≡ faults.Memory) × Begins checked_json HasCheckedMembers ds)
    ⊎ ((e ≡ faults.Member) × ((xs : List CheckedData) → ds ≡ map checked_json xs → All HasCheckedMembers xs → ⊥)) → IsFirstCheckedFault d e
checks-refused d ds e is (inl memory) = subst (IsFirstCheckedFault d) (sym memory.0) (ds, is, memory.1)
checks-refused d ds e is (inr none) = subst (IsFirstCheckedFault d) (sym none.0)
    (λ xs asks. none.1 xs (list-one ds (map checked_json xs) (sym is ∙ asks.is)) asks.members)
