-- The changes of a record, one after the other.
use Rattle.std.proofs.Common.{◌≡◌, ℕ, ◌+◌, ◌<◌, ◌≤◌, ◌⊎◌, inl, inr, Result, Ok, Err, List, [], ◌∷◌, ◌++◌, length, get_or, map, take, drop}
use Rattle.std.specs.Prelude.{IfOk, IfErr}
use Rattle.std.proofs.Common.{refl, sym, ap, subst, ◌∙◌, arith, All, append_assoc, append-nil, length-append}
use Rattle.std.proofs.lemmas.List.{flat_map_more, length-map, take-map, get_or-map}
use Rattle.std.proofs.lemmas.List.Elements.{All-head, All-tail, All-push}
use Rattle.std.proofs.lemmas.List.Folds.{length-flat_map-take}
use Rattle.feature_model.specs.declared.limits.TheConstants.{MAX_EDIT_BYTES}
use Rattle.feature_model.specs.declared.kinds.TheConstants.{DELETE_KIND}
use Rattle.feature_model.specs.Data.{FeatureData, ChangeData, put, delete, EditData, number_of}
use Rattle.feature_model.specs.Limits.{AreEnough, IsNew, AreDistinct, IsAllowedChange, TextsFit}
use Rattle.feature_model.specs.Spelled.{spelled_change, spelled_changes, spelled}
use Rattle.feature_model.specs.Types.{IsChange, IsEdit}
use Rattle.feature_model.proofs.Changes.{distinct_push, distinct_front, distinct_last}
use Rattle.edit_text.specs.declared.fault.TextFault.{TextFault}
use Rattle.edit_text.specs.declared.fault.TextFault.TheVariants.{Bad, Memory}
use Rattle.edit_text.specs.Decoding.{BeginsWithChange}
use Rattle.edit_text.specs.Recorded.{text_in, IsRecordVersion, IsRecordOf}
use Rattle.edit_text.proofs.Laws.{one_change, long_from}
use Rattle.feature_store.specs.declared.prepared.Prepared.{Prepared}
use Rattle.feature_store.specs.Prepared.{prepared_data}
use Rattle.feature_store.specs.Records.{count_in, IsCounted, AreTexts, HasNoNext}
use Rattle.feature_store.proofs.Snapshots.{All-behind}

-- ---- the changes so far

-- some changes have been read, and these bytes are left: the changes keep the limits, and no number is there twice
pub record AreRead (done : EditData) (rest text : List ℕ) : Type 0 where
  pub changes : All IsChange done
  pub distinct : AreDistinct done
  pub whole : text ≡ spelled_changes done ++ rest

pub one_more : (done : EditData) (c : ChangeData) (rest behind text : List ℕ) → AreRead done rest text → IsChange c → IsNew done (number_of c)
    → rest ≡ spelled_change c ++ behind → AreRead (done ++ c ∷ []) behind text
one_more done c rest behind text read is new begins = record {
  changes = All-push IsChange done c read.changes is;
  distinct = distinct_push done c read.distinct new;
  whole = read.whole ∙ ap (λ r. spelled_changes done ++ r) begins ∙ sym (append_assoc (spelled_changes done) (spelled_change c) behind)
      ∙ ap (λ r. r ++ behind) (flat_map_more spelled_change [] done c);
}

-- ---- no others have this text

-- changes with this text begin with those that were read, and what is left is the text of the others
abbrev GoesOn : EditData → List ℕ → EditData → Type 0
GoesOn done rest cs = (others : EditData) × (cs ≡ done ++ others) × (spelled_changes others ≡ rest)

goes_on : (done cs : EditData) (rest : List ℕ) → All IsChange done → All IsChange cs → spelled_changes cs ≡ spelled_changes done ++ rest
    → GoesOn done rest cs
goes_on [] cs rest ds is same = (cs, refl, same)
goes_on (d ∷ done) [] rest ds is same =
    absurd (omega (
      arith,
      ap length same,
      length-append (spelled_changes (d ∷ done)) rest,
      length-append (spelled_change d) (spelled_changes done),
      long_from d,
    ))
goes_on (d ∷ done) (c ∷ cs) rest ds is same =
    let texts = same ∙ append_assoc (spelled_change d) (spelled_changes done) rest in
    let both = one_change c d (spelled_changes cs) (spelled_changes done ++ rest) (All-head IsChange c cs is) (All-head IsChange d done ds) texts in
    let on = goes_on done cs rest (All-tail IsChange d done ds) (All-tail IsChange c cs is) both.1 in
    (on.0, λ i. both.0 i ∷ on.1 i, on.2)

module _ (count : ℕ) (done : EditData) (rest text : List ℕ) (read : AreRead done rest text) where
  on_from : (cs : EditData) → AreTexts count cs text → GoesOn done rest cs
  on_from cs is = goes_on done cs rest read.changes is.changes (sym is.text_is ∙ read.whole)

  -- where some are missing, and none that may be next is at the start
  pub none_next : (cs : EditData) → length done < count → HasNoNext done rest → AreTexts count cs text → ⊥
  none_next cs fewer none is = let on = on_from cs is in by on.0 on.1 on.2
    where
      by : (others : EditData) → cs ≡ done ++ others → spelled_changes others ≡ rest → ⊥
      by [] same left = omega (arith, fewer, is.count_is, ap length same, length-append done [])
      by (c ∷ others) same left =
          let all = All-behind IsChange done (c ∷ others) (subst (All IsChange) same is.changes) in
          let distinct = subst AreDistinct (same ∙ sym (append_assoc done (c ∷ []) others)) is.distinct in
          none c (All-head IsChange c others all, (spelled_changes others, sym left)) (distinct_last done c (distinct_front (done ++ c ∷ []) others distinct))

  -- where all were read, nothing is left, and there are no others
  all_by : (cs others : EditData) → length done ≡ count → length cs ≡ count → cs ≡ done ++ others → spelled_changes others ≡ rest
      → (length rest ≡ 0) × (done ≡ cs)
  all_by cs [] full count_is same left = (sym (ap length left), sym (same ∙ append-nil done))
  all_by cs (c ∷ others) full count_is same left = absurd (omega (arith, full, count_is, ap length same, length-append done (c ∷ others)))

  pub all_read : (cs : EditData) → length done ≡ count → AreTexts count cs text → (length rest ≡ 0) × (done ≡ cs)
  all_read cs full is = let on = on_from cs is in all_by cs on.0 full is.count_is on.1 on.2

-- ---- a change at the start

-- the texts of the two kinds begin with different bytes
pub no_put : (id : ℕ) (f : FeatureData) (text : List ℕ) → (rest : List ℕ) × (text ≡ DELETE_KIND ∷ rest) → BeginsWithChange (put id f) text → ⊥
unfolding spelled_change
no_put id f text deletes begins =
    let first : 1 ≡ 2 = ap (λ (xs : List ℕ). get_or xs 0 0) (sym begins.1.1 ∙ deletes.1) in omega (arith, first)

pub begins_so : (id : ℕ) (text : List ℕ) → BeginsWithChange (delete id) text → (rest : List ℕ) × (text ≡ DELETE_KIND ∷ rest)
unfolding spelled_change
begins_so id text begins = (_, begins.1.1)

pub neither : (text : List ℕ) → ((id : ℕ) (f : FeatureData) → BeginsWithChange (put id f) text → ⊥) → ((id : ℕ) → BeginsWithChange (delete id) text → ⊥)
    → (c : ChangeData) → BeginsWithChange c text → ⊥
neither text puts deletes (put id f) begins = puts id f begins
neither text puts deletes (delete id) begins = deletes id begins

-- ---- the count at the start

text_parts : (version : ℕ) (cs : EditData) → IsRecordVersion version → count_in version (length cs) ++ spelled_changes cs ≡ text_in version cs
unfolding spelled
text_parts version cs (inl first) = subst (λ v. count_in v (length cs) ++ spelled_changes cs ≡ text_in v cs) (sym first) refl
text_parts version cs (inr second) = subst (λ v. count_in v (length cs) ++ spelled_changes cs ≡ text_in v cs) (sym second) refl

pub text_joined : (version : ℕ) (cs : EditData) (front text : List ℕ) → IsRecordVersion version → front ≡ count_in version (length cs)
    → text ≡ front ++ spelled_changes cs → text ≡ text_in version cs
text_joined version cs front text is front_is text_is = text_is ∙ ap (λ r. r ++ spelled_changes cs) front_is ∙ text_parts version cs is

allowed_from : (c : ChangeData) → IsChange c → IsAllowedChange c
allowed_from (put id f) is = is.0
allowed_from (delete id) is = is

pub all_allowed_from : (cs : EditData) → All IsChange cs → All IsAllowedChange cs
all_allowed_from cs are k d l = allowed_from (get_or cs k d) (are k d l)

pub is_edit : (cs : EditData) → AreEnough (length cs) → length (spelled_changes cs) ≤ MAX_EDIT_BYTES → AreDistinct cs → All IsChange cs → IsEdit cs
is_edit cs enough short distinct are = record {
  allowed = record { count = enough; distinct = distinct; changes = all_allowed_from cs are; text = short };
  changes = are;
}

-- a count and texts that are read are those of a record
pub is_record : (version count : ℕ) (cs : EditData) (texts text : List ℕ) → IsCounted version count texts text → AreEnough count
    → length texts ≤ MAX_EDIT_BYTES → AreTexts count cs texts → IsRecordOf version cs text
is_record version count cs texts text counted enough short are = record {
  fits = record { is = counted.version_is; one = λ first. are.count_is ∙ counted.one first };
  edit = is_edit cs (subst AreEnough (sym are.count_is) enough) (omega (arith, short, ap length are.text_is)) are.distinct are.changes;
  text_is = text_joined version cs (count_in version count) text counted.version_is (ap (count_in version) (sym are.count_is))
      (counted.text_is ∙ ap (λ r. count_in version count ++ r) are.text_is);
}

-- and the record's edit has them
abbrev HasParts : ℕ → EditData → List ℕ → Type 0
HasParts count cs texts = AreTexts count cs texts × AreEnough count × (length texts ≤ MAX_EDIT_BYTES)

with_parts : (count : ℕ) (cs : EditData) (texts : List ℕ) → IsEdit cs → length cs ≡ count → texts ≡ spelled_changes cs → HasParts count cs texts
with_parts count cs texts edit count_is text_is = (
  record { count_is = count_is; changes = edit.changes; distinct = edit.allowed.distinct; text_is = text_is },
  subst AreEnough count_is edit.allowed.count,
  omega (arith, ap length text_is, edit.allowed.text),
)

pub has_parts : (version count : ℕ) (cs : EditData) (texts text : List ℕ) → IsCounted version count texts text → IsRecordOf version cs text
    → HasParts count cs texts
unfolding spelled
has_parts version count cs texts text counted is = by counted.version_is
  where
    by : IsRecordVersion version → HasParts count cs texts
    by (inl first) =
        let whole : texts ≡ spelled_changes cs =
        subst (λ v. count_in v count ++ texts ≡ text_in v cs) first (sym counted.text_is ∙ is.text_is) in
        with_parts count cs texts is.edit (is.fits.one first ∙ sym (counted.one first)) whole
    by (inr second) =
        let whole : count ∷ texts ≡ length cs ∷ spelled_changes cs =
        subst (λ v. count_in v count ++ texts ≡ text_in v cs) second (sym counted.text_is ∙ is.text_is) in
        with_parts count cs texts is.edit (sym (ap (λ (xs : List ℕ). get_or xs 0 0) whole)) (ap (λ xs. drop 1 xs) whole)

-- ---- what the functions tell

pub empty_is_none : (version : ℕ) (cs : EditData) (text : List ℕ) → version ≡ 2 → length text < 1 → IsRecordOf version cs text → ⊥
unfolding spelled
empty_is_none version cs text second empty is =
    let whole : text ≡ length cs ∷ spelled_changes cs = is.text_is ∙ ap (λ v. text_in v cs) second in
    omega (arith, empty, ap length whole)

-- with one text more they are as short as all together
pub sum_short : (xs : List Prepared) (i : ℕ) (x : Prepared) → i < length xs → x ≡ get_or xs i x → TextsFit (map prepared_data xs)
    → length (spelled_changes (map prepared_data (take i xs))) + length (spelled_change (prepared_data x)) ≤ MAX_EDIT_BYTES
sum_short xs i x l is short =
    let cs = map prepared_data xs in
    omega (
      arith,
      length-flat_map-take spelled_change cs i (prepared_data x) (omega (arith, l, length-map xs prepared_data)),
      ap (λ ys. length (spelled_changes ys)) (take-map prepared_data i xs),
      ap (λ c. length (spelled_change c)) (get_or-map prepared_data xs i x (prepared_data x) l),
      ap (λ y. length (spelled_change (prepared_data y))) is,
      short,
    )

pub put_apart : (id : ℕ) (f : FeatureData) (other : ℕ) → put id f ≡ delete other → ⊥
put_apart id f other same = cc

-- a fault that is told of one part is told of all
pub told_of : {T : Type 0} (r : Result T TextFault) (P Q : Type 0) → (P → Q) → IfErr r (λ fault. (fault ≡ Memory) ⊎ ((fault ≡ Bad) × P))
    → IfErr r (λ fault. (fault ≡ Memory) ⊎ ((fault ≡ Bad) × Q))
told_of (Ok x) P Q to told = tt
told_of (Err fault) P Q to (inl memory) = inl memory
told_of (Err fault) P Q to (inr bad) = inr (bad.0, to bad.1)

-- a change at the start whose number isn't new leaves no other
pub none_new : (done : EditData) (c : ChangeData) (rest text : List ℕ) → IsChange c → text ≡ spelled_change c ++ rest → (IsNew done (number_of c) → ⊥)
    → HasNoNext done text
none_new done c rest text is begins twice d other new =
    let same = (one_change d c other.1.0 rest other.0 is (sym other.1.1 ∙ begins)).0 in
    twice (subst (λ e. IsNew done (number_of e)) same new)

pub bad_or_memory : (fault : TextFault) (P : Type 0) → (fault ≡ Memory) ⊎ ((fault ≡ Bad) × P) → (P → ⊥) → fault ≡ Memory
bad_or_memory fault P (inl memory) never = memory
bad_or_memory fault P (inr bad) never = absurd (never bad.1)

pub record_found : {T : Type 0} (data_of : T → EditData) (r : Result T TextFault) (version count : ℕ) (texts text : List ℕ)
    → IsCounted version count texts text → AreEnough count → length texts ≤ MAX_EDIT_BYTES → IfOk r (λ v. AreTexts count (data_of v) texts)
    → IfOk r (λ v. IsRecordOf version (data_of v) text)
record_found data_of (Ok v) version count texts text counted enough short are = is_record version count (data_of v) texts text counted enough short are
record_found data_of (Err fault) version count texts text counted enough short are = tt
