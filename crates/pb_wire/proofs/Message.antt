-- Going over a message.
use Rattle.std.proofs.Common.{◌≡◌, ℕ, zero, suc, ◌+◌, ◌-◌, ◌/◌, ◌%◌, ◌<◌, ◌≤◌, false, cond, eqb, ltb, List, [], ◌∷◌, length, take, drop, Result, Ok}
use Rattle.std.proofs.Common.{Err, refl, ap, arith}
use Rattle.std.specs.Prelude.{◌||◌}
use Rattle.std.proofs.lemmas.List.{length-drop, take_all}
use Rattle.std.proofs.lemmas.Bool.{ltb-false, eqb-false, or_parts}
use Rattle.reader.specs.Reading.{◌>>=◌}
use Rattle.reader.proofs.Steps.{then_ok, guard_ok, same_value}
use Rattle.pb_wire.specs.declared.fault.FaultKind.{FaultKind}
use Rattle.pb_wire.specs.declared.fault.FaultKind.TheVariants.{Number}
use Rattle.pb_wire.specs.declared.limits.TheConstants.{MAX_FIELD}
use Rattle.pb_wire.specs.Varint.{IsGroups, varint_at}
use Rattle.pb_wire.specs.Message.{Value, FieldData, value_at, field_at}
use Rattle.pb_wire.specs.Faulty.{IsFieldNumber}
use Rattle.pb_wire.specs.Items.{Item, item_then, items_in}
use Rattle.pb_wire.proofs.VarintLaws.{found_is}

-- a number takes a byte or more
pub varint_len : (bytes : List ℕ) (n : ℕ × ℕ) → varint_at bytes ≡ Ok n → 0 < n.1
varint_len bytes n e = let h = found_is bytes n.0 n.1 e in at_least n.1 h.1.groups
  where
    at_least : (len : ℕ) → IsGroups (take len bytes) → 0 < len
    at_least zero h = absurd h
    at_least (suc len) h = omega arith

-- ---- a field in its parts

pub is_numbered : (n : ℕ) → (eqb n 0 || ltb MAX_FIELD n) ≡ false → IsFieldNumber n
is_numbered n e =
    let h = or_parts (eqb n 0) (ltb MAX_FIELD n) e in
    let not0 = eqb-false n 0 h.0 in
    (omega (arith, not0), ltb-false MAX_FIELD n h.1)

abbrev pub made_field : ℕ × ℕ → Value × ℕ → Result (FieldData × ℕ) FaultKind
made_field key value = Ok (record { number = key.0 / 8; value = value.0 }, key.1 + value.1)

abbrev pub behind_key : List ℕ → ℕ × ℕ → Result (FieldData × ℕ) FaultKind
behind_key bytes key = cond ((eqb (key.0 / 8) 0) || ltb MAX_FIELD (key.0 / 8)) (Err Number) (value_at (key.0 % 8) (drop key.1 bytes) >>= made_field key)

-- the key and the value of which a field was made
pub record FieldParts (bytes : List ℕ) (x : FieldData × ℕ) : Type 0 where
  pub key : ℕ × ℕ
  pub value : Value × ℕ
  pub key_read : varint_at bytes ≡ Ok key
  pub number : IsFieldNumber (key.0 / 8)
  pub value_read : value_at (key.0 % 8) (drop key.1 bytes) ≡ Ok value
  pub made : (record { number = key.0 / 8; value = value.0 }, key.1 + value.1) ≡ x

pub field_parts : (bytes : List ℕ) (x : FieldData × ℕ) → field_at bytes ≡ Ok x → FieldParts bytes x
unfolding field_at
field_parts bytes x e =
    let key = then_ok (varint_at bytes) (behind_key bytes) x e in
    let rest = guard_ok ((eqb (key.0.0 / 8) 0) || ltb MAX_FIELD (key.0.0 / 8)) Number
    (value_at (key.0.0 % 8) (drop key.0.1 bytes) >>= made_field key.0) x key.2 in
    let value = then_ok (value_at (key.0.0 % 8) (drop key.0.1 bytes)) (made_field key.0) x rest.1 in
    record {
      key = key.0;
      value = value.0;
      key_read = key.1;
      number = is_numbered (key.0.0 / 8) rest.0;
      value_read = value.1;
      made = same_value {Fault = FaultKind} (record { number = key.0.0 / 8; value = value.0.0 }, key.0.1 + value.0.1) x value.2;
    }

pub field_len : (bytes : List ℕ) (x : FieldData × ℕ) → field_at bytes ≡ Ok x → 0 < x.1
field_len bytes x e = let f = field_parts bytes x e in omega (arith, varint_len bytes f.key f.key_read, ap (λ (y : FieldData × ℕ). y.1) f.made)

-- ---- items

item_then_same : (at : ℕ) (a b : ℕ → List Item) (r : Result (FieldData × ℕ) FaultKind) → ((x : FieldData × ℕ) → r ≡ Ok x → a x.1 ≡ b x.1)
    → item_then at a r ≡ item_then at b r
unfolding item_then
item_then_same at a b (Ok x) same = ap (λ (others : List Item). Ok x.0 ∷ others) (same x refl)
item_then_same at a b (Err kind) same = refl

-- how many may come at most makes no difference where the bytes are no more
pub items_same : (m n at : ℕ) (bytes : List ℕ) → length bytes ≤ m → length bytes ≤ n → items_in m at bytes ≡ items_in n at bytes
unfolding items_in
items_same zero zero at bytes hm hn = refl
items_same zero (suc n) at [] hm hn = refl
items_same zero (suc n) at (b ∷ bs) hm hn = absurd (omega arith)
items_same (suc m) zero at [] hm hn = refl
items_same (suc m) zero at (b ∷ bs) hm hn = absurd (omega arith)
items_same (suc m) (suc n) at [] hm hn = refl
items_same (suc m) (suc n) at (b ∷ bs) hm hn =
    item_then_same at (λ len. items_in m (at + len) (drop len (b ∷ bs))) (λ len. items_in n (at + len) (drop len (b ∷ bs))) (field_at (b ∷ bs))
    (λ x e. let len : 0 < x.1 = field_len (b ∷ bs) x e in
    let short : length (drop x.1 (b ∷ bs)) ≤ length bs = omega (arith, length-drop x.1 (b ∷ bs)) in
    items_same m n (at + x.1) (drop x.1 (b ∷ bs)) (omega arith) (omega arith))

pub items_first : (bytes : List ℕ) (at : ℕ) (f : FieldData) (len : ℕ) (rest : List ℕ) → 0 < length bytes → field_at bytes ≡ Ok (f, len) → rest ≡ drop len bytes
    → items_in (length bytes) at bytes ≡ Ok f ∷ items_in (length rest) (at + len) rest
unfolding items_in item_then
items_first [] at f len rest some e is = absurd (omega arith)
items_first (b ∷ bs) at f len rest some e is =
    let long : 0 < len = field_len (b ∷ bs) (f, len) e in
    let short : length (drop len (b ∷ bs)) ≤ length bs = omega (arith, length-drop len (b ∷ bs)) in
    rw (e, is) (ap (λ (others : List Item). Ok f ∷ others) (items_same (length bs) (length (drop len (b ∷ bs))) (at + len) (drop len (b ∷ bs)) short
    (omega arith)))

pub items_fault : (bytes : List ℕ) (at : ℕ) (kind : FaultKind) → 0 < length bytes → field_at bytes ≡ Err kind
    → items_in (length bytes) at bytes ≡ Err (record { at = at; kind = kind }) ∷ items_in 0 at []
unfolding items_in item_then
items_fault [] at kind some e = absurd (omega arith)
items_fault (b ∷ bs) at kind some e = rw e refl

pub items_none : (bytes : List ℕ) (at : ℕ) → length bytes ≡ 0 → items_in (length bytes) at bytes ≡ []
unfolding items_in
items_none [] at none = refl
items_none (b ∷ bs) at none = absurd (omega arith)

pub back : (bytes : List ℕ) (len : ℕ) → take (length bytes - len) (drop len bytes) ≡ drop len bytes
back bytes len = take_all (length bytes - len) (drop len bytes) (omega (arith, length-drop len bytes))
