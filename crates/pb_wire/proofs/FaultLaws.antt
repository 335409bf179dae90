-- The fault that is met is the one that the bytes have.
use Rattle.std.proofs.Common.{◌≡◌, ℕ, zero, suc, ◌+◌, ◌*◌, ◌/◌, ◌%◌, ◌<◌, ◌≤◌, true, false, eqb, ltb, List, [], ◌∷◌, ◌++◌, length, take, drop, map}
use Rattle.std.proofs.Common.{ne_eqb, Result, Ok, Err, refl, sym, ap, subst, ◌∙◌, append_assoc, arith, ◌⊎◌, inl, inr}
use Rattle.std.specs.Prelude.{◌||◌}
use Rattle.std.proofs.lemmas.List.{length-drop, length-take, length-append, take-append-drop, drop_at}
use Rattle.std.proofs.lemmas.Bool.{false≢true, cases_Bool, ltb-true, lt-ltb, le-ltb, eqb-true, eqb-false}
use Rattle.reader.specs.Reading.{◌>>=◌}
use Rattle.reader.proofs.Steps.{failed, not_both, same_fault as same_kind, then_err}
use Rattle.pb_wire.specs.declared.fault.FaultKind.{FaultKind}
use Rattle.pb_wire.specs.declared.fault.WireFault.{WireFault}
use Rattle.pb_wire.specs.declared.fault.FaultKind.TheVariants.{Cut, Varint, Number, WireType}
use Rattle.pb_wire.specs.declared.limits.TheConstants.{MAX_FIELD}
use Rattle.pb_wire.specs.Varint.{IsVarint, IsCut, IsOverlong, behind, read_in, varint_at}
use Rattle.pb_wire.specs.Message.{Value, varint_value, eight_bytes, some_bytes, four_bytes, FieldData, IsField, IsMessage, front_at, value_at, field_at}
use Rattle.pb_wire.specs.Items.{Item, item_then, items_in, items_of}
use Rattle.pb_wire.specs.Faulty.{IsFieldNumber, ValueHas, FieldHas, IsFaulty, no_type, number_cut, number_overlong, eight_cut, bytes_cut, four_cut, key_cut}
use Rattle.pb_wire.specs.Faulty.{key_overlong, no_number, at_value}
use Rattle.pb_wire.proofs.VarintLaws.{chosen, found_is, spelling_is_found, cut_is, is_cut, overlong_is, is_overlong}
use Rattle.pb_wire.proofs.Message.{is_numbered, made_field, behind_key, field_len, items_first, items_fault}
use Rattle.pb_wire.proofs.MessageLaws.{field_takes, field_again, whole, item, same_first, items_message}

-- ---- numbers

read_faults : (bytes : List ℕ) (more : ℕ) (d : FaultKind) → read_in bytes more ≡ Err d → (d ≡ Cut) ⊎ (d ≡ Varint)
unfolding read_in behind
read_faults [] more d e = inl (sym (same_kind {A = ℕ × ℕ} Cut d e))
read_faults (b ∷ bs) zero d e =
    elim (chosen (ltb b 2) _ _ _ e) [
      | inl h ↦ absurd (not_both (b, 1) d h.1)
      | inr h ↦ inr (sym (same_kind {A = ℕ × ℕ} Varint d h.1))
    ]
read_faults (b ∷ bs) (suc more) d e =
    elim (chosen (ltb b 128) _ _ _ e) [
      | inl h ↦ absurd (not_both (b, 1) d h.1)
      | inr h ↦ read_faults bs more d (high (read_in bs more) h.1)
    ]
  where
    high : (r : Result (ℕ × ℕ) FaultKind) → behind b r ≡ Err d → r ≡ Err d
    high (Ok x) h = absurd (not_both (b % 128 + 128 * x.0, x.1 + 1) d h)
    high (Err a) h = h

number_faults : {Q : Type 0} (bytes : List ℕ) (d : FaultKind) → varint_at bytes ≡ Err d → (d ≡ Cut → IsCut bytes → Q) → (d ≡ Varint → IsOverlong bytes → Q) → Q
unfolding varint_at
number_faults bytes d e cut overlong =
    elim (read_faults bytes 9 d e) [
      | inl h ↦ cut h (cut_is bytes (rw h at e))
      | inr h ↦ overlong h (overlong_is bytes (rw h at e))
    ]

-- a number in front, and what stands behind it
number_parts : (bytes : List ℕ) (n : ℕ × ℕ) → varint_at bytes ≡ Ok n → (bytes ≡ take n.1 bytes ++ drop n.1 bytes) × IsVarint (take n.1 bytes) n.0
number_parts bytes n e = (sym (take-append-drop n.1 bytes), (found_is bytes n.0 n.1 e).1)

-- ---- values

front_faults : (len : ℕ) (bytes : List ℕ) (d : FaultKind) → front_at len bytes ≡ Err d → (d ≡ Cut) × (length bytes < len)
front_faults len bytes d e =
    elim (chosen (ltb (length bytes) len) _ _ _ e) [
      | inl h ↦ (sym (same_kind {A = List ℕ} Cut d h.1), ltb-true (length bytes) len h.0)
      | inr h ↦ absurd (not_both (take len bytes) d h.1)
    ]

abbrev made_number : ℕ × ℕ → Result (Value × ℕ) FaultKind
made_number n = Ok (varint_value n.0, n.1)

abbrev made_eight : List ℕ → Result (Value × ℕ) FaultKind
made_eight part = Ok (eight_bytes part, 8)

abbrev made_four : List ℕ → Result (Value × ℕ) FaultKind
made_four part = Ok (four_bytes part, 4)

abbrev made_bytes : ℕ × ℕ → List ℕ → Result (Value × ℕ) FaultKind
made_bytes n part = Ok (some_bytes part, n.1 + n.0)

at_number : (bytes : List ℕ) (d : FaultKind) → (varint_at bytes >>= made_number) ≡ Err d → ValueHas 0 bytes d
at_number bytes d e =
    elim (then_err (varint_at bytes) made_number d e) [
      | inl h ↦ number_faults bytes d h (λ is cut. number_cut is (inl refl) cut) (λ is long. number_overlong is (inl refl) long)
      | inr h ↦ absurd (not_both (varint_value h.0.0, h.0.1) d h.2)
    ]

at_eight : (bytes : List ℕ) (d : FaultKind) → (front_at 8 bytes >>= made_eight) ≡ Err d → ValueHas 1 bytes d
at_eight bytes d e =
    elim (then_err (front_at 8 bytes) made_eight d e) [
      | inl h ↦ let f = front_faults 8 bytes d h in eight_cut f.0 refl f.1
      | inr h ↦ absurd (not_both (eight_bytes h.0, 8) d h.2)
    ]

at_four : (bytes : List ℕ) (d : FaultKind) → (front_at 4 bytes >>= made_four) ≡ Err d → ValueHas 5 bytes d
at_four bytes d e =
    elim (then_err (front_at 4 bytes) made_four d e) [
      | inl h ↦ let f = front_faults 4 bytes d h in four_cut f.0 refl f.1
      | inr h ↦ absurd (not_both (four_bytes h.0, 4) d h.2)
    ]

at_bytes : (bytes : List ℕ) (d : FaultKind) → (varint_at bytes >>= λ n. front_at n.0 (drop n.1 bytes) >>= made_bytes n) ≡ Err d → ValueHas 2 bytes d
at_bytes bytes d e =
    elim (then_err (varint_at bytes) (λ n. front_at n.0 (drop n.1 bytes) >>= made_bytes n) d e) [
      | inl h ↦ number_faults bytes d h (λ is cut. number_cut is (inr refl) cut) (λ is long. number_overlong is (inr refl) long)
      | inr h ↦ elim (then_err (front_at h.0.0 (drop h.0.1 bytes)) (made_bytes h.0) d h.2) [
        | inl k ↦ let f = front_faults h.0.0 (drop h.0.1 bytes) d k in
            let p = number_parts bytes h.0 h.1 in
            bytes_cut f.0 refl (take h.0.1 bytes) (drop h.0.1 bytes) h.0.0 p.0 p.1 f.1
        | inr k ↦ absurd (not_both (some_bytes k.0, h.0.1 + h.0.0) d k.2)
      ]
    ]

value_faults : (wire : ℕ) (bytes : List ℕ) (d : FaultKind) → value_at wire bytes ≡ Err d → ValueHas wire bytes d
unfolding value_at
value_faults wire bytes d e =
    let F : ℕ → Type 0 = λ w. ValueHas w bytes d in
    elim (chosen (eqb wire 0) _ _ _ e) [
      | inl a ↦ subst F (sym (eqb-true wire 0 a.0)) (at_number bytes d a.1)
      | inr a ↦ elim (chosen (eqb wire 1) _ _ _ a.1) [
        | inl b ↦ subst F (sym (eqb-true wire 1 b.0)) (at_eight bytes d b.1)
        | inr b ↦ elim (chosen (eqb wire 2) _ _ _ b.1) [
          | inl h ↦ subst F (sym (eqb-true wire 2 h.0)) (at_bytes bytes d h.1)
          | inr h ↦ elim (chosen (eqb wire 5) _ _ _ h.1) [
            | inl f ↦ subst F (sym (eqb-true wire 5 f.0)) (at_four bytes d f.1)
            | inr f ↦ no_type (sym (same_kind {A = Value × ℕ} WireType d f.1)) (eqb-false wire 0 a.0) (eqb-false wire 1 b.0) (eqb-false wire 2 h.0)
                (eqb-false wire 5 f.0)
          ]
        ]
      ]
    ]

value_refused : (wire : ℕ) (bytes : List ℕ) (d : FaultKind) → ValueHas wire bytes d → value_at wire bytes ≡ Err d
unfolding value_at
value_refused wire bytes d (no_type is n0 n1 n2 n5) = rw (is, ne_eqb wire 0 n0, ne_eqb wire 1 n1, ne_eqb wire 2 n2, ne_eqb wire 5 n5) refl
value_refused wire bytes d (number_cut is (inl w) cut) = rw (is, w, is_cut bytes cut) refl
value_refused wire bytes d (number_cut is (inr w) cut) = rw (is, w, is_cut bytes cut) refl
value_refused wire bytes d (number_overlong is (inl w) long) = rw (is, w, is_overlong bytes long) refl
value_refused wire bytes d (number_overlong is (inr w) long) = rw (is, w, is_overlong bytes long) refl
value_refused wire bytes d (eight_cut is w short) = rw (is, w, lt-ltb (length bytes) 8 short) refl
value_refused wire bytes d (bytes_cut is w len rest n parts spelled short) =
    let read : varint_at bytes ≡ Ok (n, length len) = ap varint_at parts ∙ spelling_is_found len rest n spelled in
    let behind_it : drop (length len) bytes ≡ rest = ap (drop (length len)) parts ∙ drop_at len rest (length len) refl in
    rw (is, w, read, behind_it, lt-ltb (length rest) n short) refl
value_refused wire bytes d (four_cut is w short) = rw (is, w, lt-ltb (length bytes) 4 short) refl

-- ---- fields

not_numbered : (n : ℕ) → (eqb n 0 || ltb MAX_FIELD n) ≡ true → IsFieldNumber n → ⊥
not_numbered n e h =
    let none : eqb n 0 ≡ false = ne_eqb n 0 (λ z. absurd (omega (arith, z, h.0))) in
    let low : ltb MAX_FIELD n ≡ false = le-ltb _ _ h.1 in
    absurd (false≢true (rw (none, low) at e))

field_faults : (bytes : List ℕ) (d : FaultKind) → field_at bytes ≡ Err d → FieldHas bytes d
unfolding field_at
field_faults bytes d e =
    elim (then_err (varint_at bytes) (behind_key bytes) d e) [
      | inl h ↦ number_faults bytes d h key_cut key_overlong
      | inr h ↦ let p = number_parts bytes h.0 h.1 in
          elim (chosen ((eqb (h.0.0 / 8) 0) || ltb MAX_FIELD (h.0.0 / 8)) _ _ _ h.2) [
            | inl k ↦ no_number (sym (same_kind {A = FieldData × ℕ} Number d k.1)) (take h.0.1 bytes) (drop h.0.1 bytes) h.0.0 p.0 p.1
                (not_numbered (h.0.0 / 8) k.0)
            | inr k ↦ elim (then_err (value_at (h.0.0 % 8) (drop h.0.1 bytes)) (made_field h.0) d k.1) [
              | inl v ↦ at_value (take h.0.1 bytes) (drop h.0.1 bytes) h.0.0 p.0 p.1 (is_numbered (h.0.0 / 8) k.0)
                  (value_faults (h.0.0 % 8) (drop h.0.1 bytes) d v)
              | inr v ↦ absurd (not_both (record { number = h.0.0 / 8; value = v.0.0 }, h.0.1 + v.0.1) d v.2)
            ]
          ]
    ]

field_refused : (bytes : List ℕ) (d : FaultKind) → FieldHas bytes d → field_at bytes ≡ Err d
unfolding field_at
field_refused bytes d (key_cut is cut) = rw (is, is_cut bytes cut) refl
field_refused bytes d (key_overlong is long) = rw (is, is_overlong bytes long) refl
field_refused bytes d (no_number is key rest k parts spelled none) =
    let read : varint_at bytes ≡ Ok (k, length key) = ap varint_at parts ∙ spelling_is_found key rest k spelled in
    elim (cases_Bool (eqb (k / 8) 0 || ltb MAX_FIELD (k / 8))) [
      | inl b ↦ rw (is, read, b) refl
      | inr b ↦ absurd (none (is_numbered (k / 8) b))
    ]
field_refused bytes d (at_value key rest k parts spelled number has) =
    let read : varint_at bytes ≡ Ok (k, length key) = ap varint_at parts ∙ spelling_is_found key rest k spelled in
    let behind_it : drop (length key) bytes ≡ rest = ap (drop (length key)) parts ∙ drop_at key rest (length key) refl in
    elim (cases_Bool (eqb (k / 8) 0 || ltb MAX_FIELD (k / 8))) [
      | inl b ↦ absurd (not_numbered (k / 8) b number)
      | inr b ↦ rw (read, b, behind_it, value_refused (k % 8) rest d has) refl
    ]

-- ---- whole messages

abbrev ending : WireFault → List Item
ending fault = Err fault ∷ []

abbrev faulty : List FieldData → WireFault → List Item
faulty fields fault = whole fields ++ ending fault

-- the bytes from this offset on have the fault behind these fields
record FaultyFrom (start : ℕ) (bytes : List ℕ) (fields : List FieldData) (fault : WireFault) : Type 0 where
  front : List ℕ
  rest : List ℕ
  parts : bytes ≡ front ++ rest
  message : IsMessage front fields
  some : 0 < length rest
  offset : fault.at ≡ start + length front
  has : FieldHas rest fault.kind

same_fault : (fault : WireFault) (at : ℕ) → at ≡ fault.at → ending (record { at = at; kind = fault.kind }) ≡ ending fault
same_fault fault at e =
    let F : ℕ → List Item = λ n. ending (record { at = n; kind = fault.kind }) in
    ap F e

faulty_items : (fields : List FieldData) (start : ℕ) (bytes : List ℕ) (fault : WireFault) (front rest : List ℕ) → bytes ≡ front ++ rest → IsMessage front fields
    → 0 < length rest → fault.at ≡ start + length front → FieldHas rest fault.kind → items_in (length bytes) start bytes ≡ faulty fields fault
unfolding items_in
faulty_items [] start bytes fault front rest parts message some offset has =
    let none : length front ≡ 0 = ap length message in
    let here : bytes ≡ rest = parts ∙ ap (λ (f : List ℕ). f ++ rest) message in
    let at_start : fault.at ≡ start = omega (arith, none, offset) in
    rw here (items_fault rest start fault.kind some (field_refused rest fault.kind has) ∙ same_fault fault start (sym at_start))
faulty_items (f ∷ fs) start bytes fault front rest parts h some offset has =
    let first = h.0 in
    let behind_first : List ℕ = h.1 ++ rest in
    let regrouped : bytes ≡ first ++ behind_first = parts ∙ ap (λ (b : List ℕ). b ++ rest) h.2 ∙ append_assoc first h.1 rest in
    let read : field_at bytes ≡ Ok (f, length first) = ap field_at regrouped ∙ field_again first behind_first f h.3 in
    let long : 0 < length bytes = omega (arith, field_len bytes (f, length first) read, (field_takes bytes (f, length first) read).0) in
    let left : behind_first ≡ drop (length first) bytes = sym (ap (drop (length first)) regrouped ∙ drop_at first behind_first (length first) refl) in
    let offset_on : fault.at ≡ (start + length first) + length h.1 = omega (arith, offset, ap length h.2, length-append first h.1) in
    items_first bytes start f (length first) behind_first long read left
    ∙ ap (λ (r : List Item). item f ∷ r) (faulty_items fs (start + length first) behind_first fault h.1 rest refl h.4 some offset_on has)

-- the items from this offset on end with the fault behind these fields
abbrev GoesOn : ℕ → Type 0
GoesOn more =
    (start : ℕ) (bytes : List ℕ) (fields : List FieldData) (fault : WireFault) → length bytes ≤ more → items_in more start bytes ≡ faulty fields fault
    → FaultyFrom start bytes fields fault

none_left : (fields : List FieldData) (fault : WireFault) → [] ≡ faulty fields fault → ⊥
none_left [] fault e = cc
none_left (f ∷ fs) fault e = cc

no_fault : (x : FieldData) (others : List Item) (fault : WireFault) → item x ∷ others ≡ ending fault → ⊥
no_fault x others fault e = cc

no_field : (w : WireFault) (f : FieldData) (others : List Item) → ending w ≡ item f ∷ others → ⊥
no_field w f others e = cc

fault_there : (w fault : WireFault) → ending w ≡ ending fault → w ≡ fault
fault_there w fault e = cc

go_faulty : (more start : ℕ) (bytes : List ℕ) (fields : List FieldData) (fault : WireFault) → 0 < length bytes → length bytes ≤ suc more → GoesOn more
    → (r : Result (FieldData × ℕ) FaultKind) → field_at bytes ≡ r
    → item_then start (λ len. items_in more (start + len) (drop len bytes)) r ≡ faulty fields fault
    → FaultyFrom start bytes fields fault
unfolding item_then
go_faulty more start bytes [] fault some short next (Ok x) read e = absurd (no_fault x.0 (items_in more (start + x.1) (drop x.1 bytes)) fault e)
go_faulty more start bytes (f ∷ fs) fault some short next (Ok x) read e =
    let h = same_first x.0 f (items_in more (start + x.1) (drop x.1 bytes)) (faulty fs fault) e in
    let t = field_takes bytes x read in
    let len = field_len bytes x read in
    let left : length (drop x.1 bytes) ≤ more = omega (arith, length-drop x.1 bytes) in
    let on = next (start + x.1) (drop x.1 bytes) fs fault left h.1 in
    record {
      front = take x.1 bytes ++ on.front;
      rest = on.rest;
      parts = sym (take-append-drop x.1 bytes) ∙ ap (λ (b : List ℕ). take x.1 bytes ++ b) on.parts ∙ sym (append_assoc (take x.1 bytes) on.front on.rest);
      message = (take x.1 bytes, on.front, refl, subst (IsField (take x.1 bytes)) h.0 t.1, on.message);
      some = on.some;
      offset = omega (arith, on.offset, length-append (take x.1 bytes) on.front, length-take x.1 bytes, t.0);
      has = on.has;
    }
go_faulty more start bytes [] fault some short next (Err kind) read e =
    let w : WireFault = record { at = start; kind = kind } in
    let is = fault_there w fault e in
    let at_is : fault.at ≡ start = ap (λ (v : WireFault). v.at) (sym is) in
    let kind_is : kind ≡ fault.kind = ap (λ (v : WireFault). v.kind) is in
    record {
      front = [];
      rest = bytes;
      parts = refl;
      message = refl;
      some = some;
      offset = omega (arith, at_is);
      has = field_faults bytes fault.kind (read ∙ ap (λ (k : FaultKind). failed k) kind_is);
    }
go_faulty more start bytes (f ∷ fs) fault some short next (Err kind) read e = absurd (no_field (record { at = start; kind = kind }) f (faulty fs fault) e)

items_faulty : (more start : ℕ) (bytes : List ℕ) (fields : List FieldData) (fault : WireFault) → length bytes ≤ more
    → items_in more start bytes ≡ faulty fields fault → FaultyFrom start bytes fields fault
unfolding items_in item_then
items_faulty zero start [] fields fault short e = absurd (none_left fields fault e)
items_faulty zero start (b ∷ bs) fields fault short e = absurd (omega arith)
items_faulty (suc more) start [] fields fault short e = absurd (none_left fields fault e)
items_faulty (suc more) start (b ∷ bs) fields fault short e =
    go_faulty more start (b ∷ bs) fields fault (omega arith) short (items_faulty more) (field_at (b ∷ bs)) refl e

-- ---- the law's two clauses

pub is_faulty : (bytes : List ℕ) (fields : List FieldData) (fault : WireFault) → items_of bytes ≡ map (λ f. Ok f) fields ++ Err fault ∷ []
    → IsFaulty bytes fields fault
is_faulty bytes fields fault e =
    let h = items_faulty (length bytes) 0 bytes fields fault (omega arith) e in
    record { front = h.front; rest = h.rest; parts = h.parts; message = h.message; some = h.some; offset = omega (arith, h.offset); has = h.has }

pub faulty_is : (bytes : List ℕ) (fields : List FieldData) (fault : WireFault) → IsFaulty bytes fields fault
    → items_of bytes ≡ map (λ f. Ok f) fields ++ Err fault ∷ []
faulty_is bytes fields fault h = faulty_items fields 0 bytes fault h.front h.rest h.parts h.message h.some (omega (arith, h.offset)) h.has

-- the items are fields, and then perhaps a fault
abbrev Ends : List Item → Type 0
Ends items = ((fields : List FieldData) × (items ≡ whole fields)) ⊎ ((fields : List FieldData) × (fault : WireFault) × (items ≡ faulty fields fault))

one_more : (f : FieldData) (items : List Item) → Ends items → Ends (item f ∷ items)
one_more f items (inl h) = inl (f ∷ h.0, ap (λ (r : List Item). item f ∷ r) h.1)
one_more f items (inr h) = inr (f ∷ h.0, h.1, ap (λ (r : List Item). item f ∷ r) h.2)

items_end : (more start : ℕ) (bytes : List ℕ) → Ends (items_in more start bytes)
unfolding items_in item_then
items_end zero start bytes = inl ([], refl)
items_end (suc more) start [] = inl ([], refl)
items_end (suc more) start (b ∷ bs) = go (λ x. items_end more (start + x.1) (drop x.1 (b ∷ bs))) (field_at (b ∷ bs))
  where
    go : ((x : FieldData × ℕ) → Ends (items_in more (start + x.1) (drop x.1 (b ∷ bs)))) → (r : Result (FieldData × ℕ) FaultKind)
        → Ends (item_then start (λ len. items_in more (start + len) (drop len (b ∷ bs))) r)
    go next (Ok x) = one_more x.0 (items_in more (start + x.1) (drop x.1 (b ∷ bs))) (next x)
    go next (Err kind) = inr ([], record { at = start; kind = kind }, refl)

pub one_or_other : (bytes : List ℕ) → ((fields : List FieldData) × IsMessage bytes fields)
    ⊎ ((fields : List FieldData) × (fault : WireFault) × IsFaulty bytes fields fault)
one_or_other bytes =
    elim (items_end (length bytes) 0 bytes) [
      | inl h ↦ inl (h.0, items_message (length bytes) 0 bytes h.0 (omega arith) h.1)
      | inr h ↦ inr (h.0, h.1, is_faulty bytes h.0 h.1 h.2)
    ]
