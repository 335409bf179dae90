-- What is read is spelled so, and what is spelled so is read.
use Rattle.std.proofs.Common.{◌≡◌, ℕ, zero, suc, ◌+◌, ◌*◌, ◌/◌, ◌%◌, ◌<◌, ◌≤◌, false, eqb, ltb, List, [], ◌∷◌, ◌++◌, length, take, drop, map}
use Rattle.std.proofs.Common.{ne_eqb, Result, Ok, Err, refl, sym, ap, subst, ◌∙◌, append_assoc, arith, inl, inr}
use Rattle.std.proofs.lemmas.List.{length-drop, length-take, length-append, take-append-drop, take_at, drop_at}
use Rattle.std.proofs.Math.Seq.{take-add}
use Rattle.std.proofs.lemmas.Bool.{ltb-false, le-ltb, eqb-true}
use Rattle.reader.specs.Reading.{◌>>=◌}
use Rattle.reader.proofs.Steps.{then_ok, guard_ok, same_value, not_both}
use Rattle.pb_wire.specs.declared.fault.FaultKind.{FaultKind}
use Rattle.pb_wire.specs.declared.fault.WireFault.{WireFault}
use Rattle.pb_wire.specs.declared.fault.FaultKind.TheVariants.{Cut, WireType}
use Rattle.pb_wire.specs.declared.limits.TheConstants.{MAX_FIELD}
use Rattle.pb_wire.specs.Varint.{IsVarint, varint_at}
use Rattle.pb_wire.specs.Message.{Value, varint_value, eight_bytes, some_bytes, four_bytes, FieldData, wire_type, SpellsValue, IsField, IsMessage, front_at}
use Rattle.pb_wire.specs.Message.{value_at, field_at}
use Rattle.pb_wire.specs.Items.{Item, item_then, items_in}
use Rattle.pb_wire.proofs.VarintLaws.{chosen, found_is, spelling_is_found}
use Rattle.pb_wire.proofs.Message.{field_parts, field_len, items_first}

-- ---- what is read is spelled so

pub record TakesValue (wire : ℕ) (bytes : List ℕ) (x : Value × ℕ) : Type 0 where
  pub within : x.1 ≤ length bytes
  pub type_is : wire_type x.0 ≡ wire
  pub spelled : SpellsValue (take x.1 bytes) x.0

pub front_takes : (len : ℕ) (bytes part : List ℕ) → front_at len bytes ≡ Ok part → (len ≤ length bytes) × (take len bytes ≡ part)
front_takes len bytes part e =
    let g = guard_ok (ltb (length bytes) len) Cut (Ok (take len bytes)) part e in
    (ltb-false (length bytes) len g.0, same_value {Fault = FaultKind} (take len bytes) part g.1)

varint_takes : (bytes : List ℕ) (x : Value × ℕ) → (varint_at bytes >>= λ n. Ok (varint_value n.0, n.1)) ≡ Ok x → TakesValue 0 bytes x
varint_takes bytes x e =
    let n = then_ok (varint_at bytes) (λ n. Ok (varint_value n.0, n.1)) x e in
    let h = found_is bytes n.0.0 n.0.1 n.1 in
    let made : Value × ℕ = (varint_value n.0.0, n.0.1) in
    subst (TakesValue 0 bytes) (same_value {Fault = FaultKind} made x n.2) record { within = h.0; type_is = refl; spelled = h.1 }

-- a value of so many bytes
fixed_takes : (size wire : ℕ) (made : List ℕ → Value) → ((part : List ℕ) → wire_type (made part) ≡ wire)
    → ((front part : List ℕ) → front ≡ part → length part ≡ size → SpellsValue front (made part))
    → (bytes : List ℕ) (x : Value × ℕ) → (front_at size bytes >>= λ part. Ok (made part, size)) ≡ Ok x → TakesValue wire bytes x
fixed_takes size wire made type_is spells bytes x e =
    let part = then_ok (front_at size bytes) (λ part. Ok (made part, size)) x e in
    let h = front_takes size bytes part.0 part.1 in
    let len : length part.0 ≡ size = rw (← h.1) (omega (arith, length-take size bytes, h.0)) in
    let takes : TakesValue wire bytes (made part.0, size) =
    record { within = h.0; type_is = type_is part.0; spelled = spells (take size bytes) part.0 h.1 len } in
    subst (TakesValue wire bytes) (same_value {Fault = FaultKind} (made part.0, size) x part.2) takes

eight_takes : (bytes : List ℕ) (x : Value × ℕ) → (front_at 8 bytes >>= λ part. Ok (eight_bytes part, 8)) ≡ Ok x → TakesValue 1 bytes x
eight_takes = fixed_takes 8 1 (λ part. eight_bytes part) (λ part. refl) (λ front part is len. (is, len))

four_takes : (bytes : List ℕ) (x : Value × ℕ) → (front_at 4 bytes >>= λ part. Ok (four_bytes part, 4)) ≡ Ok x → TakesValue 5 bytes x
four_takes = fixed_takes 4 5 (λ part. four_bytes part) (λ part. refl) (λ front part is len. (is, len))

some_takes : (bytes : List ℕ) (x : Value × ℕ) → (varint_at bytes >>= λ n. front_at n.0 (drop n.1 bytes) >>= λ part. Ok (some_bytes part, n.1 + n.0)) ≡ Ok x
    → TakesValue 2 bytes x
some_takes bytes x e =
    let n = then_ok (varint_at bytes) (λ n. front_at n.0 (drop n.1 bytes) >>= λ part. Ok (some_bytes part, n.1 + n.0)) x e in
    let h = found_is bytes n.0.0 n.0.1 n.1 in
    let part = then_ok (front_at n.0.0 (drop n.0.1 bytes)) (λ part. Ok (some_bytes part, n.0.1 + n.0.0)) x n.2 in
    let p = front_takes n.0.0 (drop n.0.1 bytes) part.0 part.1 in
    let made : Value × ℕ = (some_bytes part.0, n.0.1 + n.0.0) in
    let len : length part.0 ≡ n.0.0 = rw (← p.1) (omega (arith, length-take n.0.0 (drop n.0.1 bytes), p.0)) in
    subst (TakesValue 2 bytes) (same_value {Fault = FaultKind} made x part.2) record {
      within = omega (arith, length-drop n.0.1 bytes, p.0, h.0);
      type_is = refl;
      spelled = (
        take n.0.1 bytes,
        subst (IsVarint (take n.0.1 bytes)) (sym len) h.1,
        take-add n.0.1 n.0.0 bytes
            ∙ ap (λ (r : List ℕ). take n.0.1 bytes ++ r) p.1,
      );
    }

pub value_takes : (wire : ℕ) (bytes : List ℕ) (x : Value × ℕ) → value_at wire bytes ≡ Ok x → TakesValue wire bytes x
unfolding value_at
value_takes wire bytes x e =
    elim (chosen (eqb wire 0) _ _ _ e) [
      | inl a ↦ subst (λ (w : ℕ). TakesValue w bytes x) (sym (eqb-true wire 0 a.0)) (varint_takes bytes x a.1)
      | inr a ↦ elim (chosen (eqb wire 1) _ _ _ a.1) [
        | inl b ↦ subst (λ (w : ℕ). TakesValue w bytes x) (sym (eqb-true wire 1 b.0)) (eight_takes bytes x b.1)
        | inr b ↦ elim (chosen (eqb wire 2) _ _ _ b.1) [
          | inl d ↦ subst (λ (w : ℕ). TakesValue w bytes x) (sym (eqb-true wire 2 d.0)) (some_takes bytes x d.1)
          | inr d ↦ elim (chosen (eqb wire 5) _ _ _ d.1) [
            | inl f ↦ subst (λ (w : ℕ). TakesValue w bytes x) (sym (eqb-true wire 5 f.0)) (four_takes bytes x f.1)
            | inr f ↦ absurd (not_both x WireType (sym f.1))
          ]
        ]
      ]
    ]

pub field_takes : (bytes : List ℕ) (x : FieldData × ℕ) → field_at bytes ≡ Ok x → (x.1 ≤ length bytes) × IsField (take x.1 bytes) x.0
field_takes bytes x e =
    let f = field_parts bytes x e in
    let len = f.key.1 in
    let number = f.key.0 / 8 in
    let k = found_is bytes f.key.0 len f.key_read in
    let v = value_takes (f.key.0 % 8) (drop len bytes) f.value f.value_read in
    let whole : f.key.0 ≡ 8 * number + wire_type f.value.0 = rw v.type_is (omega arith) in
    subst (λ (y : FieldData × ℕ). (y.1 ≤ length bytes) × IsField (take y.1 bytes) y.0) f.made (
      omega (arith, k.0, v.within, length-drop len bytes),
      record {
        key = take len bytes;
        value = take f.value.1 (drop len bytes);
        parts = take-add len f.value.1 bytes;
        key_is = subst (IsVarint (take len bytes)) whole k.1;
        value_is = v.spelled;
        number = f.number;
      },
    )

-- ---- what is spelled so is read

value_again : (bytes rest : List ℕ) (v : Value) → SpellsValue bytes v → value_at (wire_type v) (bytes ++ rest) ≡ Ok (v, length bytes)
unfolding value_at
value_again bytes rest (varint_value n) h = rw (spelling_is_found bytes rest n h) refl
value_again bytes rest (eight_bytes part) h =
    let e : length bytes ≡ 8 = ap length h.0 ∙ h.1 in
    let long : ltb (length (bytes ++ rest)) 8 ≡ false = le-ltb _ _ (omega (arith, length-append bytes rest)) in
    rw (long, take_at bytes rest 8 e, e, h.0) refl
value_again bytes rest (some_bytes part) h =
    let regrouped : bytes ++ rest ≡ h.0 ++ (part ++ rest) = ap (λ (b : List ℕ). b ++ rest) h.2 ∙ append_assoc h.0 part rest in
    let read = spelling_is_found h.0 (part ++ rest) (length part) h.1 in
    let behind = drop_at h.0 (part ++ rest) (length h.0) refl in
    let long : ltb (length (part ++ rest)) (length part) ≡ false = le-ltb _ _ (omega (arith, length-append part rest)) in
    let len : length h.0 + length part ≡ length bytes = omega (arith, ap length h.2, length-append h.0 part) in
    ap (value_at 2) regrouped ∙ rw (read, behind, long, take_at part rest (length part) refl, len) refl
value_again bytes rest (four_bytes part) h =
    let e : length bytes ≡ 4 = ap length h.0 ∙ h.1 in
    let long : ltb (length (bytes ++ rest)) 4 ≡ false = le-ltb _ _ (omega (arith, length-append bytes rest)) in
    rw (long, take_at bytes rest 4 e, e, h.0) refl

small_type : (v : Value) → wire_type v < 8
small_type (varint_value n) = omega arith
small_type (eight_bytes part) = omega arith
small_type (some_bytes part) = omega arith
small_type (four_bytes part) = omega arith

pub field_again : (bytes rest : List ℕ) (f : FieldData) → IsField bytes f → field_at (bytes ++ rest) ≡ Ok (f, length bytes)
unfolding field_at
field_again bytes rest f h =
    let regrouped : bytes ++ rest ≡ h.key ++ (h.value ++ rest) = ap (λ (b : List ℕ). b ++ rest) h.parts ∙ append_assoc h.key h.value rest in
    let read = spelling_is_found h.key (h.value ++ rest) (8 * f.number + wire_type f.value) h.key_is in
    let behind = drop_at h.key (h.value ++ rest) (length h.key) refl in
    let small = small_type f.value in
    let number : (8 * f.number + wire_type f.value) / 8 ≡ f.number = omega arith in
    let type : (8 * f.number + wire_type f.value) % 8 ≡ wire_type f.value = omega arith in
    let not0 : eqb f.number 0 ≡ false = ne_eqb f.number 0 (λ e. absurd (omega (arith, h.number.0))) in
    let low : ltb MAX_FIELD f.number ≡ false = le-ltb _ _ h.number.1 in
    let len : length h.key + length h.value ≡ length bytes = omega (arith, ap length h.parts, length-append h.key h.value) in
    ap field_at regrouped ∙ rw (read, number, type, behind, not0, low, value_again h.value rest f.value h.value_is, len) refl

-- ---- whole messages

abbrev pub whole : List FieldData → List Item
whole fields = map (λ f. Ok f) fields

abbrev pub item : FieldData → Item
item f = Ok f

pub same_first : (a b : FieldData) (xs ys : List Item) → item a ∷ xs ≡ item b ∷ ys → (a ≡ b) × (xs ≡ ys)
same_first a b xs ys e = (cc, cc)

-- a message goes on behind its first field
abbrev GoesOn : ℕ → Type 0
GoesOn more = (at : ℕ) (bytes : List ℕ) (fields : List FieldData) → length bytes ≤ more → items_in more at bytes ≡ whole fields → IsMessage bytes fields

some_left : (x : FieldData) (others : List Item) → item x ∷ others ≡ [] → ⊥
some_left x others e = cc

nothing_left : (f : FieldData) (fs : List FieldData) → [] ≡ item f ∷ whole fs → ⊥
nothing_left f fs e = cc

fault_left : (w : WireFault) (fields : List FieldData) → Err w ∷ [] ≡ whole fields → ⊥
fault_left w [] e = cc
fault_left w (f ∷ fs) e = cc

go_message : (more at : ℕ) (bytes : List ℕ) (fields : List FieldData) → length bytes ≤ suc more → GoesOn more → (r : Result (FieldData × ℕ) FaultKind)
    → field_at bytes ≡ r → item_then at (λ len. items_in more (at + len) (drop len bytes)) r ≡ whole fields → IsMessage bytes fields
unfolding item_then
go_message more at bytes [] short next (Ok x) read e = absurd (some_left x.0 (items_in more (at + x.1) (drop x.1 bytes)) e)
go_message more at bytes (f ∷ fs) short next (Ok x) read e =
    let h = same_first x.0 f (items_in more (at + x.1) (drop x.1 bytes)) (whole fs) e in
    let t = field_takes bytes x read in
    let len = field_len bytes x read in
    let left : length (drop x.1 bytes) ≤ more = omega (arith, length-drop x.1 bytes) in
    (take x.1 bytes, drop x.1 bytes, sym (take-append-drop x.1 bytes), subst (IsField (take x.1 bytes)) h.0 t.1, next (at + x.1) (drop x.1 bytes) fs left h.1)
go_message more at bytes fields short next (Err kind) read e = absurd (fault_left (record { at = at; kind = kind }) fields e)

pub items_message : (more at : ℕ) (bytes : List ℕ) (fields : List FieldData) → length bytes ≤ more → items_in more at bytes ≡ whole fields
    → IsMessage bytes fields
unfolding items_in item_then
items_message zero at [] [] short e = refl
items_message zero at [] (f ∷ fs) short e = absurd (nothing_left f fs e)
items_message zero at (b ∷ bs) fields short e = absurd (omega arith)
items_message (suc more) at [] [] short e = refl
items_message (suc more) at [] (f ∷ fs) short e = absurd (nothing_left f fs e)
items_message (suc more) at (b ∷ bs) fields short e = go_message more at (b ∷ bs) fields short (items_message more) (field_at (b ∷ bs)) refl e

pub message_items : (fields : List FieldData) (at : ℕ) (bytes : List ℕ) → IsMessage bytes fields → items_in (length bytes) at bytes ≡ whole fields
unfolding items_in
message_items [] at bytes h = rw h refl
message_items (f ∷ fs) at bytes h =
    let front = h.0 in
    let rest = h.1 in
    let read : field_at bytes ≡ Ok (f, length front) = ap field_at h.2 ∙ field_again front rest f h.3 in
    let some : 0 < length bytes = omega (arith, field_len bytes (f, length front) read, (field_takes bytes (f, length front) read).0) in
    let left : rest ≡ drop (length front) bytes = sym (ap (drop (length front)) h.2 ∙ drop_at front rest (length front) refl) in
    items_first bytes at f (length front) rest some read left ∙ ap (λ (r : List Item). item f ∷ r) (message_items fs (at + length front) rest h.4)
