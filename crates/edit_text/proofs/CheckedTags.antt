-- Tags that are checked, and not kept.
use Rattle.std.proofs.Common.{◌≡◌, ℕ, ◌+◌, ◌-◌, ◌<◌, ◌≤◌, ◌&&◌, nat_le, if◌then◌else◌, List, [], ◌∷◌, ◌++◌, length, Ok, Err, refl, ap, ◌∙◌, arith}
use Rattle.std.specs.Ordering.{nat_cmp, is_lt}
use Rattle.std.specs.Cmp.Lexicographic.{slice_cmp}
use Rattle.std.proofs.lemmas.Bool.{cases_lt}
use Rattle.std.specs.Str.{is_utf8}
use Rattle.reader.proofs.Steps.{then_ok, then_same}
use Rattle.feature_model.specs.declared.limits.TheConstants.{MAX_NAME_BYTES}
use Rattle.feature_model.specs.Data.{TagData, ValueData}
use Rattle.edit_text.specs.declared.fault.TextFault.{TextFault}
use Rattle.edit_text.specs.declared.fault.TextFault.TheVariants.{Bad}
use Rattle.edit_text.specs.Reading.{then_read, read_as, read_if, byte_at, front_at, text_at, name_at, is_next_key, value_at, tag_at, many_at}
use Rattle.edit_text.specs.Checking.{last_key, next_key_at}
use Rattle.edit_text.proofs.Many.{many_step, many_stop, many_done}
use Rattle.edit_text.proofs.FieldCodecs.{front_found, name_len_fits}
use Rattle.edit_text.proofs.PointLists.{if_ok}

-- a name has a byte
name_some : (bytes : List ℕ) (x : List ℕ × List ℕ) → name_at bytes ≡ Ok x → 1 ≤ length x.0
unfolding name_at text_at
name_some bytes x is =
    let named = then_ok (read_if (λ len. nat_le 1 len && nat_le len MAX_NAME_BYTES) (byte_at bytes)) (λ y. text_at y.0 y.1) x is in
    let len = if_ok (λ len. nat_le 1 len && nat_le len MAX_NAME_BYTES) (byte_at bytes) named.0 named.1 in
    let text = if_ok is_utf8 (front_at named.0.0 named.0.1) x named.2 in
    let front = front_found named.0.0 named.0.1 x.0 x.1 (cases_lt (length named.0.1) named.0.0) text.0 in
    omega (arith, front.0, (name_len_fits named.0.0 len.1).0)

-- the test of a key, by the last
test_same : (done : List TagData) (key : List ℕ) → 1 ≤ length key → is_next_key done key ≡ is_lt (slice_cmp nat_cmp (last_key done) key)
unfolding is_next_key last_key
test_same [] [] some = absurd (omega arith)
test_same [] (k ∷ ks) some = refl
test_same (t ∷ []) key some = refl
test_same (t ∷ u ∷ ts) key some = test_same (u ∷ ts) key some

-- the key after some tags
key_same : (done : List TagData) (last bytes : List ℕ) → last_key done ≡ last → read_if (is_next_key done) (name_at bytes) ≡ next_key_at last bytes
unfolding next_key_at
key_same done last bytes e =
    then_same (name_at bytes) (λ x. if is_next_key done x.0 then Ok x else Err Bad) (λ x. if is_lt (slice_cmp nat_cmp last x.0) then Ok x else Err Bad)
    (λ x is. ap (λ b. if b then Ok x else Err Bad) (test_same done x.0 (name_some bytes x is) ∙ ap (λ l. is_lt (slice_cmp nat_cmp l x.0)) e))

last_key-push : (done : List TagData) (t : TagData) → last_key (done ++ t ∷ []) ≡ t.key
unfolding last_key
last_key-push [] t = refl
last_key-push (u ∷ []) t = refl
last_key-push (u ∷ v ∷ ts) t = last_key-push (v ∷ ts) t

-- some were read up to here, the last with this key, and the others follow
abbrev pub TagsAt : ℕ → ℕ → List ℕ → List ℕ → List ℕ → Type 0
TagsAt count i last rest bytes = (done : List TagData) × (last_key done ≡ last) × (many_at tag_at (count - i) done rest ≡ many_at tag_at count [] bytes)

abbrev tag_of : List ℕ → ValueData → TagData
tag_of key value = record { key = key; value = value }

module _ (count i : ℕ) (last rest bytes : List ℕ) (so_far : TagsAt count i last rest bytes) (h : i < count) where
  pub tags_on : (key value after : List ℕ) → next_key_at last rest ≡ Ok (key, value) → (v : ValueData) × (value_at value ≡ Ok (v, after))
      → TagsAt count (i + 1) key after bytes
  unfolding tag_at
  tags_on key value after named one =
      let read : tag_at so_far.0 rest ≡ Ok (tag_of key one.0, after) =
      ap (λ p. then_read p (λ k r. read_as (tag_of k) (value_at r))) (key_same so_far.0 last rest so_far.1 ∙ named)
      ∙ ap (read_as (tag_of key)) one.1 in
      let tag = tag_of key one.0 in
      (so_far.0 ++ tag ∷ [], last_key-push so_far.0 tag, many_step tag_at count i so_far.0 rest tag after _ h so_far.2 read)

  pub tags_key_fault : (fault : TextFault) → next_key_at last rest ≡ Err fault → many_at tag_at count [] bytes ≡ Err fault
  unfolding tag_at
  tags_key_fault fault named =
      let read : tag_at so_far.0 rest ≡ Err fault =
      ap (λ p. then_read p (λ k r. read_as (tag_of k) (value_at r))) (key_same so_far.0 last rest so_far.1 ∙ named) in
      many_stop tag_at count i so_far.0 rest fault _ h so_far.2 read

  pub tags_value_fault : (key value : List ℕ) (fault : TextFault) → next_key_at last rest ≡ Ok (key, value) → value_at value ≡ Err fault
      → many_at tag_at count [] bytes ≡ Err fault
  unfolding tag_at
  tags_value_fault key value fault named one =
      let read : tag_at so_far.0 rest ≡ Err fault =
      ap (λ p. then_read p (λ k r. read_as (tag_of k) (value_at r))) (key_same so_far.0 last rest so_far.1 ∙ named)
      ∙ ap (read_as (tag_of key)) one in
      many_stop tag_at count i so_far.0 rest fault _ h so_far.2 read

pub tags_whole : (count i : ℕ) (last rest bytes : List ℕ) → count ≤ i → TagsAt count i last rest bytes
    → (done : List TagData) × (many_at tag_at count [] bytes ≡ Ok (done, rest))
tags_whole count i last rest bytes h so_far = (so_far.0, many_done tag_at count i so_far.0 rest _ h so_far.2)
