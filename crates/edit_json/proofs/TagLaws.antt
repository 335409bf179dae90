-- The members of `tags` are read as exactly the tags whose members they are.
use Rattle.std.proofs.Common.{◌≡◌, ℕ, suc, pos, negsuc, List, [], ◌∷◌, length, Ok, Err, refl, sym, ap, arith}
use Rattle.std.specs.Prelude.{nat_le, int_lt}
use Rattle.std.proofs.lemmas.Bool.{leb-true, ltb-true}
use Rattle.std.proofs.lemmas.Int.{ints}
use Rattle.std.proofs.lemmas.Bool.Decides.{nat_tests}
use Rattle.std.proofs.lemmas.List.Elements.{All-nil, All-cons, All-head, All-tail}
use Rattle.serde_json.specs.Data.{Data, null, boolean, number, string, array, object, unsigned, negative, float, Members, no_members, member}
use Rattle.feature_model.specs.declared.limits.TheConstants.{MAX_TEXT_BYTES}
use Rattle.reader.specs.Reading.{Read, ◌>>=◌}
use Rattle.reader.proofs.Steps.{same_value, not_both, then_faults}
use Rattle.feature_model.specs.declared.fault.EditFault.{EditFault}
use Rattle.feature_model.specs.declared.fault.EditFault.TheVariants as faults
use Rattle.feature_model.specs.Data.{ValueData, text_value, natural_value, negative_value, truth_value, TagData}
use Rattle.feature_model.specs.Limits.{ValueFits, ValuesFit, keys_of}
use Rattle.edit_json.specs.Json.{value_json, tags_json}
use Rattle.edit_json.specs.Faults.{names_of}
use Rattle.edit_json.specs.Tags.{value_at, tag_at, tags_at}
use Rattle.edit_json.proofs.GeometryLaws.{if-ok, if-fault}

-- ---- values

pub value_at-says : (d : Data) (v : ValueData) → value_at d ≡ Ok v → (d ≡ value_json v) × ValueFits v
unfolding value_at
value_at-says null v e = cc
value_at-says (boolean b) v e = let f : v ≡ truth_value b = cc in rw f (refl, tt)
value_at-says (number (unsigned n)) v e = let f : v ≡ natural_value n = cc in rw f (refl, tt)
value_at-says (number (negative (pos n))) v e =
    let h = if-ok (int_lt (pos n) (pos 0)) (Ok (negative_value (pos n))) faults.Value v e in
    absurd (omega (arith, ltb-true n 0 h.0))
value_at-says (number (negative (negsuc n))) v e = let f : v ≡ negative_value (negsuc n) = cc in rw f (refl, omega (arith, ints))
value_at-says (number (float x)) v e = cc
value_at-says (string t) v e =
    let h = if-ok (nat_le (length t) MAX_TEXT_BYTES) (Ok (text_value t)) faults.Value v e in
    let f : v ≡ text_value t = let g = h.1 in cc in
    rw f (refl, leb-true (length t) MAX_TEXT_BYTES h.0)
value_at-says (array ds) v e = cc
value_at-says (object ms) v e = cc

pub value_at-fault : (d : Data) (e : EditFault) → value_at d ≡ Err e → e ≡ faults.Value
unfolding value_at
value_at-fault null e h = cc
value_at-fault (boolean b) e h = cc
value_at-fault (number (unsigned n)) e h = cc
value_at-fault (number (negative z)) e h =
    if-fault (int_lt z (pos 0)) (Ok (negative_value z)) faults.Value e (λ k. absurd (not_both (negative_value z) e k)) h
value_at-fault (number (float x)) e h = cc
value_at-fault (string t) e h =
    if-fault (nat_le (length t) MAX_TEXT_BYTES) (Ok (text_value t)) faults.Value e (λ k. absurd (not_both (text_value t) e k)) h
value_at-fault (array ds) e h = cc
value_at-fault (object ms) e h = cc

pub value_at-finds : (v : ValueData) → ValueFits v → value_at (value_json v) ≡ Ok v
unfolding value_at
value_at-finds (text_value t) h = grind (arith, nat_tests)
value_at-finds (natural_value n) h = refl
value_at-finds (negative_value (pos n)) h = absurd (omega (arith, ints, h))
value_at-finds (negative_value (negsuc n)) h = refl
value_at-finds (truth_value b) h = refl

-- ---- tags

tag-ok : (key : List ℕ) (o : Read EditFault ValueData) (p : Read EditFault (List TagData)) (ts : List TagData)
    → ((o >>= (λ v. Ok (record { key = key; value = v }))) >>= (λ t. p >>= (λ us. Ok (t ∷ us)))) ≡ Ok ts
    → (v : ValueData) × ((us : List TagData) × ((o ≡ Ok v) × (p ≡ Ok us) × (ts ≡ record { key = key; value = v } ∷ us)))
tag-ok key (Err c) p ts e = cc
tag-ok key (Ok v) (Err c) ts e = cc
tag-ok key (Ok v) (Ok us) ts e = (v, (us, (refl, refl, sym (same_value (record { key = key; value = v } ∷ us) ts e))))

pub tags_at-says : (ms : Members) (ts : List TagData) → tags_at ms ≡ Ok ts → (ms ≡ tags_json ts) × ValuesFit ts
unfolding tags_at tag_at
tags_at-says no_members ts e = let f : ts ≡ [] = cc in rw f (refl, All-nil (λ t. ValueFits t.value))
tags_at-says (member key d ms) ts e =
    let h = tag-ok key (value_at d) (tags_at ms) ts e in
    let f = value_at-says d h.0 h.1.1.0 in
    let g = tags_at-says ms h.1.0 h.1.1.1 in
    rw h.1.1.2 (λ i. member key (f.0 i) (g.0 i), All-cons (λ t. ValueFits t.value) (record { key = key; value = h.0 }) h.1.0 f.1 g.1)

pub tags_at-fault : (ms : Members) (e : EditFault) → tags_at ms ≡ Err e → e ≡ faults.Value
unfolding tags_at tag_at
tags_at-fault no_members e h = absurd (not_both [] e h)
tags_at-fault (member key d ms) e h =
    then_faults (λ c. c ≡ faults.Value) (tag_at key d) (λ t. tags_at ms >>= (λ ts. Ok (t ∷ ts)))
    (then_faults (λ c. c ≡ faults.Value) (value_at d) (λ v. Ok (record { key = key; value = v })) (value_at-fault d)
    (λ v c k. absurd (not_both (record { key = key; value = v }) c k)))
    (λ t. then_faults (λ c. c ≡ faults.Value) (tags_at ms) (λ ts. Ok (t ∷ ts)) (tags_at-fault ms) (λ ts c k. absurd (not_both (t ∷ ts) c k))) e h

pub tags_at-finds : (ts : List TagData) → ValuesFit ts → tags_at (tags_json ts) ≡ Ok ts
unfolding tags_at tag_at
tags_at-finds [] h = refl
tags_at-finds (t ∷ ts) h = rw (
  value_at-finds t.value (All-head (λ t. ValueFits t.value) t ts h),
  tags_at-finds ts (All-tail (λ t. ValueFits t.value) t ts h),
) refl

-- the names of the members are the keys
pub names_of-tags : (ts : List TagData) → names_of (tags_json ts) ≡ keys_of ts
names_of-tags [] = refl
names_of-tags (t ∷ ts) = ap (λ ns. t.key ∷ ns) (names_of-tags ts)

pub length-keys_of : (ts : List TagData) → length (keys_of ts) ≡ length ts
length-keys_of [] = refl
length-keys_of (t ∷ ts) = ap suc (length-keys_of ts)
