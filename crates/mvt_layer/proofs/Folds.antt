-- Going over lists, state by state.
use Rattle.std.proofs.Common.{◌≡◌, ℕ, zero, suc, ◌+◌, ◌*◌, ◌%◌, ◌<◌, ◌≤◌, true, false, ltb, List, [], ◌∷◌, ◌++◌, length, map, drop, get_or, add-one}
use Rattle.std.proofs.Common.{Result, Ok, Err, refl, sym, ap, ◌∙◌}
use Rattle.std.proofs.Common.{arith}
use Rattle.std.proofs.lemmas.Bool.{le-ltb, lt-ltb}
use Rattle.std.proofs.lemmas.List.{length-drop, drop_all, map-append}
use Rattle.std.proofs.Math.Seq.{drop-cons}
use Rattle.std.specs.Borrow.{Bor}
use Rattle.mvt_layer.specs.Tile.{bytes_of}
use Rattle.reader.specs.Reading.{Read, ◌>>=◌, folded}
use Rattle.reader.proofs.Steps.{done, same_value, not_both, then_on, then_stop, then_same, folded_on, folded_stop, folded_done}
use Rattle.pb_wire.specs.declared.fault.FaultKind.{FaultKind}
use Rattle.pb_wire.specs.Varint.{behind, read_in, varint_at}
use Rattle.pb_wire.proofs.Message.{varint_len}
use Rattle.mvt_layer.specs.declared.fault.TileFault.{TileFault}
use Rattle.mvt_layer.specs.declared.fault.TileFault.TheVariants as faults
use Rattle.mvt_layer.specs.Reading.{or_broken, number_at, packed_in, number_more, part_more}

-- ---- packed numbers

pub number_found : (bytes : List ℕ) (n : ℕ × ℕ) → number_at bytes ≡ Ok n → varint_at bytes ≡ Ok n
number_found bytes n = go (varint_at bytes)
  where
    go : (read : Result (ℕ × ℕ) FaultKind) → or_broken read ≡ Ok n → read ≡ Ok n
    go (Ok x) e = ap (done {Fault = FaultKind}) (same_value {Fault = TileFault} x n e)
    go (Err kind) e = absurd (not_both n faults.Wire (sym e))

-- a number of two bytes
pub two_read : (bytes : List ℕ) → 2 ≤ length bytes → 128 ≤ get_or bytes 0 0 → get_or bytes 1 0 < 128
    → number_at bytes ≡ Ok (get_or bytes 0 0 % 128 + 128 * get_or bytes 1 0, 2)
unfolding varint_at read_in behind
two_read [] two high low = absurd (omega arith)
two_read (a ∷ []) two high low = absurd (omega arith)
two_read (a ∷ b ∷ bs) two high low =
    let first : ltb a 128 ≡ false = le-ltb a 128 high in
    let second : ltb b 128 ≡ true = lt-ltb b 128 low in
    rw (first, second) refl

-- so many at most makes no difference where the bytes are no more
pub packed_same : (m n : ℕ) (before bytes : List ℕ) → length bytes ≤ m → length bytes ≤ n → packed_in m before bytes ≡ packed_in n before bytes
unfolding packed_in
packed_same zero zero before bytes hm hn = refl
packed_same zero (suc n) before [] hm hn = refl
packed_same zero (suc n) before (b ∷ bs) hm hn = absurd (omega arith)
packed_same (suc m) zero before [] hm hn = refl
packed_same (suc m) zero before (b ∷ bs) hm hn = absurd (omega arith)
packed_same (suc m) (suc n) before [] hm hn = refl
packed_same (suc m) (suc n) before (b ∷ bs) hm hn =
    then_same (number_at (b ∷ bs)) (λ r. number_more before r.0 >>= λ ns. packed_in m ns (drop r.1 (b ∷ bs)))
    (λ r. number_more before r.0 >>= λ ns. packed_in n ns (drop r.1 (b ∷ bs)))
    (λ r e. let len : 0 < r.1 = varint_len (b ∷ bs) r (number_found (b ∷ bs) r e) in
    let short : length (drop r.1 (b ∷ bs)) ≤ length bs = omega (arith, length-drop r.1 (b ∷ bs)) in
    then_same (number_more before r.0) (λ ns. packed_in m ns (drop r.1 (b ∷ bs))) (λ ns. packed_in n ns (drop r.1 (b ∷ bs)))
    (λ ns _. packed_same m n ns (drop r.1 (b ∷ bs)) (omega arith) (omega arith)))

pub packed_first : (before bytes : List ℕ) (n len : ℕ) → 0 < length bytes → varint_at bytes ≡ Ok (n, len)
    → packed_in (length bytes) before bytes ≡ (number_more before n >>= λ ns. packed_in (length (drop len bytes)) ns (drop len bytes))
unfolding packed_in
packed_first before [] n len some e = absurd (omega arith)
packed_first before (b ∷ bs) n len some e =
    let long : 0 < len = varint_len (b ∷ bs) (n, len) e in
    let short : length (drop len (b ∷ bs)) ≤ length bs = omega (arith, length-drop len (b ∷ bs)) in
    rw e (then_same (number_more before n) (λ ns. packed_in (length bs) ns (drop len (b ∷ bs)))
    (λ ns. packed_in (length (drop len (b ∷ bs))) ns (drop len (b ∷ bs)))
    (λ ns _. packed_same (length bs) (length (drop len (b ∷ bs))) ns (drop len (b ∷ bs)) short (omega arith)))

pub packed_on : (before next bytes : List ℕ) (n len : ℕ) (whole : Read TileFault (List ℕ)) → 0 < length bytes → number_at bytes ≡ Ok (n, len)
    → number_more before n ≡ Ok next → packed_in (length bytes) before bytes ≡ whole → packed_in (length (drop len bytes)) next (drop len bytes) ≡ whole
packed_on before next bytes n len whole some e more so_far =
    let one = packed_first before bytes n len some (number_found bytes (n, len) e) in
    sym (one ∙ then_on (number_more before n) (λ ns. packed_in (length (drop len bytes)) ns (drop len bytes)) next more) ∙ so_far

pub packed_range : (before bytes : List ℕ) (n len : ℕ) (whole : Read TileFault (List ℕ)) → 0 < length bytes → number_at bytes ≡ Ok (n, len)
    → packed_in (length bytes) before bytes ≡ whole → (d : TileFault) → number_more before n ≡ Err d → whole ≡ Err d
packed_range before bytes n len whole some e so_far d more =
    let one = packed_first before bytes n len some (number_found bytes (n, len) e) in
    sym so_far ∙ (one ∙ then_stop (number_more before n) (λ ns. packed_in (length (drop len bytes)) ns (drop len bytes)) d more)

pub packed_broken : (before bytes : List ℕ) (d : TileFault) (whole : Read TileFault (List ℕ)) → 0 < length bytes
    → packed_in (length bytes) before bytes ≡ whole → number_at bytes ≡ Err d → whole ≡ Err d
unfolding packed_in
packed_broken before [] d whole some so_far e = absurd (omega arith)
packed_broken before (b ∷ bs) d whole some so_far e =
    sym so_far ∙ then_stop (number_at (b ∷ bs)) (λ n. number_more before n.0 >>= λ ns. packed_in (length bs) ns (drop n.1 (b ∷ bs))) d e

pub packed_done : (before bytes : List ℕ) (whole : Read TileFault (List ℕ)) → length bytes ≤ 0 → packed_in (length bytes) before bytes ≡ whole
    → whole ≡ Ok before
unfolding packed_in
packed_done before [] whole none so_far = sym so_far
packed_done before (b ∷ bs) whole none so_far = absurd (omega arith)

-- ---- lists of parts

-- the part at an index
abbrev pub part_at : List (Bor (List ℕ)) → ℕ → List ℕ
part_at parts i = (get_or parts i (record { ref_ptr = (0, 0); now = [] })).now

parts_first : (parts : List (Bor (List ℕ))) (i : ℕ) → i < length parts → bytes_of (drop i parts) ≡ part_at parts i ∷ bytes_of (drop (i + 1) parts)
parts_first parts i below =
    let nowhere : Bor (List ℕ) = record { ref_ptr = (0, 0); now = [] } in
    let first : drop i parts ≡ get_or parts i nowhere ∷ drop (i + 1) parts = rw add-one (drop-cons parts i nowhere below) in
    ap bytes_of first

-- a step for each of the parts, from an index on
module _ {S : Type 0} (step : S → List ℕ → Read TileFault S) (parts : List (Bor (List ℕ))) (i : ℕ) where
  pub parts_on : (state next : S) (whole : Read TileFault S)
      → i < length parts → folded step state (bytes_of (drop i parts)) ≡ whole → step state (part_at parts i) ≡ Ok next
      → folded step next (bytes_of (drop (i + 1) parts)) ≡ whole
  parts_on state next whole below =
      folded_on step state next (part_at parts i) (bytes_of (drop i parts)) (bytes_of (drop (i + 1) parts)) whole (parts_first parts i below)

  pub parts_stop : (state : S) (d : TileFault) (whole : Read TileFault S)
      → i < length parts → folded step state (bytes_of (drop i parts)) ≡ whole → step state (part_at parts i) ≡ Err d → whole ≡ Err d
  parts_stop state d whole below =
      folded_stop step state (part_at parts i) (bytes_of (drop i parts)) (bytes_of (drop (i + 1) parts)) d whole (parts_first parts i below)

  pub parts_done : (state : S) (whole : Read TileFault S)
      → length parts ≤ i → folded step state (bytes_of (drop i parts)) ≡ whole → whole ≡ Ok state
  parts_done state whole all = folded_done step state (bytes_of (drop i parts)) whole (ap bytes_of (drop_all i parts all))

-- what each of the parts reads as, from an index on
module _ {X Y : Type 0} (view : X → Y) (read : List ℕ → Read TileFault Y) (parts : List (Bor (List ℕ))) (i : ℕ) where
  pub each_on : (before next : List X) (x : X) (whole : Read TileFault (List Y))
      → i < length parts → folded (part_more read) (map view before) (bytes_of (drop i parts)) ≡ whole
      → read (part_at parts i) ≡ Ok (view x) → next ≡ before ++ x ∷ [] → folded (part_more read) (map view next) (bytes_of (drop (i + 1) parts)) ≡ whole
  each_on before next x whole below so_far e is =
      let viewed : map view next ≡ map view before ++ view x ∷ [] = ap (map view) is ∙ map-append view before (x ∷ []) in
      let stepped : part_more read (map view before) (part_at parts i) ≡ Ok (map view next) = rw (e, viewed) refl in
      parts_on (part_more read) parts i (map view before) (map view next) whole below so_far stepped

  pub each_stop : (before : List Y) (d : TileFault) (whole : Read TileFault (List Y))
      → i < length parts → folded (part_more read) before (bytes_of (drop i parts)) ≡ whole → read (part_at parts i) ≡ Err d → whole ≡ Err d
  each_stop before d whole below so_far e =
      parts_stop (part_more read) parts i before d whole below so_far (then_stop (read (part_at parts i)) (λ x. Ok (before ++ x ∷ [])) d e)
