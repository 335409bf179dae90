-- A pass over a message says what the values of its fields say, both ways.
use Rattle.std.proofs.Common.{◌≡◌, ℕ, zero, suc, ◌<◌, ◌≤◌, Bool, true, false, cond, eqb, ltb, List, [], ◌∷◌, ◌++◌, length, take, drop, map, Option, Some}
use Rattle.std.proofs.Common.{Ok, Err, refl, sym, ap, subst, ◌∙◌, append_assoc, arith}
use Rattle.std.proofs.lemmas.Bool.{ltb-false, le-ltb}
use Rattle.std.proofs.lemmas.List.{append-nil, length-append, length-drop, take-append-drop, drop_at}
use Rattle.reader.specs.Reading.{Read, ◌>>=◌, folded}
use Rattle.reader.proofs.Steps.{done, same_value, not_both, then_ok, then_stop, then_is, then_same, guard_ok}
use Rattle.pb_wire.specs.declared.fault.WireFault.{WireFault}
use Rattle.pb_wire.specs.Message.{Value, varint_value, eight_bytes, some_bytes, four_bytes, FieldData}
use Rattle.pb_wire.specs.Items.{Item, items_of}
use Rattle.pb_wire.proofs.Message.{varint_len}
use Rattle.pb_wire.proofs.VarintLaws.{found_is, spelling_is_found}
use Rattle.mvt_layer.specs.declared.fault.TileFault.{TileFault}
use Rattle.mvt_layer.specs.declared.fault.TileFault.TheVariants as faults
use Rattle.mvt_layer.specs.Reading.{after, pass, number_after, bytes_after, parts_after, number_more, number_at, packed_in, numbers_after}
use Rattle.mvt_layer.specs.Reads.{values_of, LastNumber, LastBytes, AreParts, ArePacked, AreNumbers}
use Rattle.mvt_layer.proofs.Folds.{number_found, packed_first}

-- ---- fields and items

abbrev pub fine : List FieldData → List Item
fine fields = map (λ f. Ok f) fields

module _ {S : Type 0} (step : S → Item → Read TileFault S) (broken : (s : S) (w : WireFault) → step s (Err w) ≡ Err faults.Wire) where
  pub whole_of : (items : List Item) (s last : S) → folded step s items ≡ Ok last → (fields : List FieldData) × (items ≡ fine fields)
  unfolding folded
  whole_of [] s last e = ([], refl)
  whole_of (Err w ∷ is) s last e =
      absurd (not_both last faults.Wire (sym e ∙ then_stop (step s (Err w)) (λ next. folded step next is) faults.Wire (broken s w)))
  whole_of (Ok f ∷ is) s last e =
      let one = then_ok (step s (Ok f)) (λ next. folded step next is) last e in
      let more = whole_of is one.0 last one.2 in
      (f ∷ more.0, ap (λ (k : List Item). Ok f ∷ k) more.1)

module _ {S : Type 0} (number : ℕ) (step : S → Value → Read TileFault S) where
  passes : (fields : List FieldData) (s : S) → folded (after number step) s (fine fields) ≡ folded step s (values_of number fields)
  unfolding folded
  passes [] s = refl
  passes (f ∷ fs) s = go (passes fs) (eqb f.number number)
    where
      go : ((s : S) → folded (after number step) s (fine fs) ≡ folded step s (values_of number fs)) → (b : Bool)
          → (cond b (step s f.value) (Ok s) >>= λ next. folded (after number step) next (fine fs))
          ≡ folded step s (cond b (f.value ∷ values_of number fs) (values_of number fs))
      go more true =
          then_same (step s f.value) (λ next. folded (after number step) next (fine fs)) (λ next. folded step next (values_of number fs)) (λ s _. more s)
      go more false = more s

  pub pass_at : (bytes : List ℕ) (fields : List FieldData) (s : S) → items_of bytes ≡ fine fields
      → pass number step s bytes ≡ folded step s (values_of number fields)
  pass_at bytes fields s e = ap (folded (after number step) s) e ∙ passes fields s

-- ---- what the values say

pub number_says : (vs : List Value) (before last : Option ℕ) → folded number_after before vs ≡ Ok last → LastNumber before vs last
unfolding folded
number_says [] before last e = sym (same_value {Fault = TileFault} before last e)
number_says (varint_value n ∷ vs) before last e = number_says vs (Some n) last e
number_says (eight_bytes _ ∷ vs) before last e = absurd cc
number_says (some_bytes _ ∷ vs) before last e = absurd cc
number_says (four_bytes _ ∷ vs) before last e = absurd cc

pub number_reads : (vs : List Value) (before last : Option ℕ) → LastNumber before vs last → folded number_after before vs ≡ Ok last
unfolding folded
number_reads [] before last h = ap (done {Fault = TileFault}) (sym h)
number_reads (varint_value n ∷ vs) before last h = number_reads vs (Some n) last h
number_reads (eight_bytes _ ∷ vs) before last h = absurd h
number_reads (some_bytes _ ∷ vs) before last h = absurd h
number_reads (four_bytes _ ∷ vs) before last h = absurd h

pub bytes_says : (vs : List Value) (before last : Option (List ℕ)) → folded bytes_after before vs ≡ Ok last → LastBytes before vs last
unfolding folded
bytes_says [] before last e = sym (same_value {Fault = TileFault} before last e)
bytes_says (some_bytes p ∷ vs) before last e = bytes_says vs (Some p) last e
bytes_says (eight_bytes _ ∷ vs) before last e = absurd cc
bytes_says (varint_value _ ∷ vs) before last e = absurd cc
bytes_says (four_bytes _ ∷ vs) before last e = absurd cc

pub bytes_reads : (vs : List Value) (before last : Option (List ℕ)) → LastBytes before vs last → folded bytes_after before vs ≡ Ok last
unfolding folded
bytes_reads [] before last h = ap (done {Fault = TileFault}) (sym h)
bytes_reads (some_bytes p ∷ vs) before last h = bytes_reads vs (Some p) last h
bytes_reads (eight_bytes _ ∷ vs) before last h = absurd h
bytes_reads (varint_value _ ∷ vs) before last h = absurd h
bytes_reads (four_bytes _ ∷ vs) before last h = absurd h

pub parts_say : (vs : List Value) (before all : List (List ℕ)) → folded parts_after before vs ≡ Ok all
    → (parts : List (List ℕ)) × (all ≡ before ++ parts) × AreParts vs parts
unfolding folded
parts_say [] before all e = ([], sym (same_value {Fault = TileFault} before all e) ∙ sym (append-nil before), refl)
parts_say (some_bytes p ∷ vs) before all e =
    let more = parts_say vs (before ++ p ∷ []) all e in
    (p ∷ more.0, more.1 ∙ append_assoc before (p ∷ []) more.0, ap (λ (k : List Value). some_bytes p ∷ k) more.2)
parts_say (eight_bytes _ ∷ vs) before all e = absurd cc
parts_say (varint_value _ ∷ vs) before all e = absurd cc
parts_say (four_bytes _ ∷ vs) before all e = absurd cc

pub parts_read : (parts before : List (List ℕ)) → folded parts_after before (map (λ p. some_bytes p) parts) ≡ Ok (before ++ parts)
unfolding folded
parts_read [] before = ap (done {Fault = TileFault}) (sym (append-nil before))
parts_read (p ∷ ps) before = parts_read ps (before ++ p ∷ []) ∙ ap (done {Fault = TileFault}) (append_assoc before (p ∷ []) ps)

pub more_says : (before ns : List ℕ) (n : ℕ) → number_more before n ≡ Ok ns → (ns ≡ before ++ n ∷ []) × (n < 4294967296)
more_says before ns n e =
    let p = guard_ok (ltb 4294967295 n) faults.Range (Ok (before ++ n ∷ [])) ns e in
    (sym (same_value {Fault = TileFault} (before ++ n ∷ []) ns p.1), omega (arith, ltb-false 4294967295 n p.0))

more_reads : (before : List ℕ) (n : ℕ) → n < 4294967296 → number_more before n ≡ Ok (before ++ n ∷ [])
more_reads before n lt = let t : ltb 4294967295 n ≡ false = le-ltb 4294967295 n (omega arith) in rw t refl

pub packed_says : (n : ℕ) (before bytes all : List ℕ) → length bytes ≤ n → packed_in n before bytes ≡ Ok all
    → (ns : List ℕ) × (all ≡ before ++ ns) × ArePacked bytes ns
unfolding packed_in
packed_says zero before [] all le e = ([], sym (same_value {Fault = TileFault} before all e) ∙ sym (append-nil before), refl)
packed_says zero before (b ∷ bs) all le e = absurd (omega arith)
packed_says (suc n) before [] all le e = ([], sym (same_value {Fault = TileFault} before all e) ∙ sym (append-nil before), refl)
packed_says (suc n) before (b ∷ bs) all le e =
    let r = then_ok (number_at (b ∷ bs)) (λ k. number_more before k.0 >>= λ ns. packed_in n ns (drop k.1 (b ∷ bs))) all e in
    let found = number_found (b ∷ bs) r.0 r.1 in
    let m = then_ok (number_more before r.0.0) (λ ns. packed_in n ns (drop r.0.1 (b ∷ bs))) all r.2 in
    let says = more_says before m.0 r.0.0 m.1 in
    let long : 0 < r.0.1 = varint_len (b ∷ bs) r.0 found in
    let more = packed_says n m.0 (drop r.0.1 (b ∷ bs)) all (omega (arith, length-drop r.0.1 (b ∷ bs))) m.2 in
    let v = found_is (b ∷ bs) r.0.0 r.0.1 found in (
      r.0.0 ∷ more.0,
      more.1 ∙ (ap (λ (k : List ℕ). k ++ more.0) says.0 ∙ append_assoc before (r.0.0 ∷ []) more.0),
      (take r.0.1 (b ∷ bs), drop r.0.1 (b ∷ bs), sym (take-append-drop r.0.1 (b ∷ bs)), v.1, says.1, more.2),
    )

pub packed_reads : (ns : List ℕ) (before bytes : List ℕ) → ArePacked bytes ns → packed_in (length bytes) before bytes ≡ Ok (before ++ ns)
unfolding packed_in
packed_reads [] before bytes h = ap (λ (k : List ℕ). packed_in (length k) before k) h ∙ ap (done {Fault = TileFault}) (sym (append-nil before))
packed_reads (n ∷ ns) before bytes (first, rest, parts, spelled, lt, others) =
    let found = spelling_is_found first rest n spelled in
    let long : 0 < length first = varint_len (first ++ rest) (n, length first) found in
    let some : 0 < length (first ++ rest) = omega (arith, length-append first rest) in
    let behind : drop (length first) (first ++ rest) ≡ rest = drop_at first rest (length first) refl in
    let one = packed_first before (first ++ rest) n (length first) some found in
    let F : List ℕ → Type 0 = λ k. (number_more before n >>= λ q. packed_in (length k) q k) ≡ Ok (before ++ n ∷ ns) in
    let more = packed_reads ns (before ++ n ∷ []) rest others in
    ap (λ (k : List ℕ). packed_in (length k) before k) parts
    ∙ (one ∙ subst F (sym behind) (then_is (number_more before n) (λ q. packed_in (length rest) q rest) (before ++ n ∷ []) (Ok (before ++ n ∷ ns))
    (more_reads before n lt) (more ∙ ap (done {Fault = TileFault}) (append_assoc before (n ∷ []) ns))))

pub numbers_say : (vs : List Value) (before all : List ℕ) → folded numbers_after before vs ≡ Ok all → (ns : List ℕ) × (all ≡ before ++ ns) × AreNumbers vs ns
unfolding folded
numbers_say [] before all e = ([], sym (same_value {Fault = TileFault} before all e) ∙ sym (append-nil before), refl)
numbers_say (varint_value n ∷ vs) before all e =
    let m = then_ok (number_more before n) (λ next. folded numbers_after next vs) all e in
    let says = more_says before m.0 n m.1 in
    let more = numbers_say vs m.0 all m.2 in
    (n ∷ more.0, more.1 ∙ (ap (λ (k : List ℕ). k ++ more.0) says.0 ∙ append_assoc before (n ∷ []) more.0), (more.0, refl, says.1, more.2))
numbers_say (some_bytes part ∷ vs) before all e =
    let m = then_ok (packed_in (length part) before part) (λ next. folded numbers_after next vs) all e in
    let says = packed_says (length part) before part m.0 (omega arith) m.1 in
    let more = numbers_say vs m.0 all m.2 in
    (says.0 ++ more.0, more.1 ∙ (ap (λ (k : List ℕ). k ++ more.0) says.1 ∙ append_assoc before says.0 more.0), (says.0, more.0, refl, says.2, more.2))
numbers_say (eight_bytes _ ∷ vs) before all e = absurd cc
numbers_say (four_bytes _ ∷ vs) before all e = absurd cc

pub numbers_read : (vs : List Value) (before ns : List ℕ) → AreNumbers vs ns → folded numbers_after before vs ≡ Ok (before ++ ns)
unfolding folded
numbers_read [] before ns h = ap (done {Fault = TileFault}) (sym (append-nil before) ∙ ap (λ (k : List ℕ). before ++ k) (sym h))
numbers_read (varint_value n ∷ vs) before ns (rest, is, lt, others) =
    let more = numbers_read vs (before ++ n ∷ []) rest others in
    then_is (number_more before n) (λ next. folded numbers_after next vs) (before ++ n ∷ []) (Ok (before ++ ns)) (more_reads before n lt)
    (more ∙ ap (done {Fault = TileFault}) (append_assoc before (n ∷ []) rest ∙ ap (λ (k : List ℕ). before ++ k) (sym is)))
numbers_read (some_bytes part ∷ vs) before ns (front, rest, is, packed, others) =
    let more = numbers_read vs (before ++ front) rest others in
    then_is (packed_in (length part) before part) (λ next. folded numbers_after next vs) (before ++ front) (Ok (before ++ ns))
    (packed_reads front before part packed) (more
    ∙ ap (done {Fault = TileFault}) (append_assoc before front rest ∙ ap (λ (k : List ℕ). before ++ k) (sym is)))
numbers_read (eight_bytes _ ∷ vs) before ns h = absurd h
numbers_read (four_bytes _ ∷ vs) before ns h = absurd h
