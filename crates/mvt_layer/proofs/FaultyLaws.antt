-- The fault that reading meets is one that the bytes have.
use Rattle.std.proofs.Common.{◌≡◌, ℕ, zero, suc, ◌+◌, ◌<◌, ◌≤◌, Bool, true, false, cond, eqb, ltb, ◌⊎◌, inl, inr, List, [], ◌∷◌, ◌++◌, length, take, drop}
use Rattle.std.proofs.Common.{Option, Some, None, Result, Ok, Err, refl, sym, ap, subst, ◌∙◌, append_assoc, arith}
use Rattle.std.proofs.lemmas.Bool.{eqb-true, ltb-true}
use Rattle.std.proofs.lemmas.List.{length-drop, take-append-drop}
use Rattle.std.specs.Prelude.{slice_get}
use Rattle.reader.specs.Reading.{Read, ◌>>=◌, folded}
use Rattle.reader.proofs.Steps.{same_fault, not_both, then_err}
use Rattle.pb_wire.specs.declared.fault.FaultKind.{FaultKind}
use Rattle.pb_wire.specs.declared.fault.WireFault.{WireFault}
use Rattle.pb_wire.specs.Varint.{varint_at}
use Rattle.pb_wire.specs.Message.{Value, varint_value, eight_bytes, some_bytes, four_bytes, FieldData, IsField, field_at}
use Rattle.pb_wire.specs.Items.{Item, item_then, items_in, items_of}
use Rattle.pb_wire.proofs.Message.{varint_len}
use Rattle.pb_wire.proofs.MessageLaws.{field_takes, message_items}
use Rattle.pb_wire.proofs.VarintLaws.{found_is, spelling_is_found}
use Rattle.geometry_commands.specs.declared.decoding.GeometryFault.{GeometryFault}
use Rattle.geometry_commands.specs.Shapes.{ShapeView}
use Rattle.geometry_commands.specs.Decoding.{shape_at}
use Rattle.geometry_commands.proofs.Shaped.{shape_again}
use Rattle.mvt_layer.specs.declared.fault.TileFault.{TileFault}
use Rattle.mvt_layer.specs.declared.fault.TileFault.TheVariants as faults
use Rattle.mvt_layer.specs.Tile.{TagView, Tagged, FeatureView}
use Rattle.mvt_layer.specs.Reading.{after, pass, number_after, bytes_after, parts_after, number_more, or_broken, packed_in, numbers_after, last_number_in}
use Rattle.mvt_layer.specs.Reading.{numbers_in, tags_at, tag_at, has_number, found_tag, shape_read, kind_of, feature_at, feature_of_parts}
use Rattle.mvt_layer.specs.Reads.{values_of, AreNumbers}
use Rattle.mvt_layer.specs.Faulty.{BeginsWith, PackedHas, BadNumber, BadBytes, BadNumbers, PassHas, broken, bad_value, FeatureHas, at_id, at_kind, at_indices}
use Rattle.mvt_layer.specs.Faulty.{at_ints, at_tags, at_shape}
use Rattle.mvt_layer.proofs.Said.{fine, pass_at, number_says, numbers_say, more_says}
use Rattle.mvt_layer.proofs.TileLaws.{fields_message, pass_whole, tags_read}

-- ---- the fields in front of a fault

item : FieldData → Item
item f = Ok f

pub items_begin : (more at : ℕ) (bytes : List ℕ) (fields : List FieldData) (others : List Item) → items_in more at bytes ≡ fine fields ++ others
    → BeginsWith bytes fields
unfolding items_in item_then
items_begin more at bytes [] others e = ([], bytes, refl, refl)
items_begin zero at bytes (f ∷ fs) others e = absurd (nothing f (fine fs ++ others) e)
  where
    nothing : (f : FieldData) (is : List Item) → [] ≡ Ok f ∷ is → ⊥
    nothing f is h = cc
items_begin (suc more) at [] (f ∷ fs) others e = absurd (nothing f (fine fs ++ others) e)
  where
    nothing : (f : FieldData) (is : List Item) → [] ≡ Ok f ∷ is → ⊥
    nothing f is h = cc
items_begin (suc more) at (b ∷ bs) (f ∷ fs) others e = go (λ k rest. items_begin more k rest fs others) (field_at (b ∷ bs)) refl e
  where
    same_first : (a c : FieldData) (xs ys : List Item) → Ok a ∷ xs ≡ Ok c ∷ ys → (a ≡ c) × (xs ≡ ys)
    same_first a c xs ys h = (cc, cc)

    fault_first : (w : WireFault) (c : FieldData) (xs ys : List Item) → Err w ∷ xs ≡ Ok c ∷ ys → ⊥
    fault_first w c xs ys h = cc

    go : ((k : ℕ) (rest : List ℕ) → items_in more k rest ≡ fine fs ++ others → BeginsWith rest fs)
        → (r : Result (FieldData × ℕ) FaultKind) → field_at (b ∷ bs) ≡ r
        → item_then at (λ len. items_in more (at + len) (drop len (b ∷ bs))) r ≡ Ok f ∷ (fine fs ++ others) → BeginsWith (b ∷ bs) (f ∷ fs)
    go next (Err kind) read h = absurd (fault_first (record { at = at; kind = kind }) f [] (fine fs ++ others) h)
    go next (Ok x) read h =
        let same = same_first x.0 f (items_in more (at + x.1) (drop x.1 (b ∷ bs))) (fine fs ++ others) h in
        let t = field_takes (b ∷ bs) x read in
        let inner = next (at + x.1) (drop x.1 (b ∷ bs)) same.1 in
        let first : List ℕ = take x.1 (b ∷ bs) in (
          first ++ inner.0,
          inner.1,
          sym (take-append-drop x.1 (b ∷ bs)) ∙ (ap (λ (k : List ℕ). first ++ k) inner.2 ∙ sym (append_assoc first inner.0 inner.1)),
          (first, inner.0, refl, subst (IsField first) same.0 t.1, inner.3),
        )

-- where going over items meets a fault
module _ {S : Type 0} (number : ℕ) (step : S → Value → Read TileFault S) where
  abbrev Met : List Item → TileFault → Type 0
  Met items d = ((d ≡ faults.Wire) × ((fields : List FieldData) × (w : WireFault) × (others : List Item) × (items ≡ fine fields ++ Err w ∷ others)))
      ⊎ ((fields : List FieldData) × (f : FieldData) × (others : List Item) × (before : S) × (items ≡ fine fields ++ Ok f ∷ others) × (f.number ≡ number)
      × (step before f.value ≡ Err d))

  met_more : (g : FieldData) (is : List Item) (d : TileFault) → Met is d → Met (Ok g ∷ is) d
  met_more g is d (inl (wire, (fields, w, others, e))) = inl (wire, (g ∷ fields, w, others, ap (λ (k : List Item). Ok g ∷ k) e))
  met_more g is d (inr (fields, f, others, before, e, n, bad)) = inr (g ∷ fields, f, others, before, ap (λ (k : List Item). Ok g ∷ k) e, n, bad)

  met : (items : List Item) (s : S) (d : TileFault) → folded (after number step) s items ≡ Err d → Met items d
  unfolding folded
  met [] s d e = absurd cc
  met (Err w ∷ is) s d e = inl (sym (same_fault {A = S} faults.Wire d e), ([], w, is, refl))
  met (Ok g ∷ is) s d e = go (λ k h. met is k d h) (eqb g.number number) refl e
    where
      go : ((k : S) → folded (after number step) k is ≡ Err d → Met is d) → (b : Bool) → eqb g.number number ≡ b
          → (cond b (step s g.value) (Ok s) >>= λ next. folded (after number step) next is) ≡ Err d → Met (Ok g ∷ is) d
      go more true same h =
          elim (then_err (step s g.value) (λ next. folded (after number step) next is) d h)
          [ inl bad ↦ inr ([], g, is, s, refl, eqb-true g.number number same, bad) | inr x ↦ met_more g is d (more x.0 x.2) ]
      go more false same h = met_more g is d (more s h)

pub no_fault : (fields fs : List FieldData) (w : WireFault) (others : List Item) → fine fields ++ Err w ∷ others ≡ fine fs → ⊥
no_fault [] [] w others e = cc
no_fault [] (f ∷ fs) w others e = cc
no_fault (g ∷ gs) [] w others e = cc
no_fault (g ∷ gs) (f ∷ fs) w others e = no_fault gs fs w others (rest (Ok g) (Ok f) (fine gs ++ Err w ∷ others) (fine fs) e)
  where
    rest : (a b : Item) (xs ys : List Item) → a ∷ xs ≡ b ∷ ys → xs ≡ ys
    rest a b xs ys h = cc

pub fine_snoc : (fields : List FieldData) (f : FieldData) (others : List Item) → fine fields ++ Ok f ∷ others ≡ fine (fields ++ f ∷ []) ++ others
fine_snoc [] f others = refl
fine_snoc (g ∷ gs) f others = ap (λ (k : List Item). Ok g ∷ k) (fine_snoc gs f others)

pub pass_has : {S : Type 0} (Bad : Value → TileFault → Type 0) (number : ℕ) (step : S → Value → Read TileFault S) (s : S) (bytes : List ℕ) (d : TileFault)
    → ((k : S) (v : Value) → step k v ≡ Err d → Bad v d) → pass number step s bytes ≡ Err d → PassHas Bad number bytes d
pass_has {S} Bad number step s bytes d bad e = go (met number step (items_of bytes) s d e)
  where
    go : Met number step (items_of bytes) d → PassHas Bad number bytes d
    go (inl (wire, (fields, w, others, h))) = broken wire (λ fs m. no_fault fields fs w others (sym h ∙ message_items fs 0 bytes m))
    go (inr (fields, f, others, before, h, n, b)) =
        bad_value f (fields, items_begin (length bytes) 0 bytes (fields ++ f ∷ []) others (h ∙ fine_snoc fields f others)) n (bad before f.value b)

-- ---- bad values

pub number_bad : (d : TileFault) (k : Option ℕ) (v : Value) → number_after k v ≡ Err d → BadNumber v d
number_bad d k (varint_value n) e = absurd cc
number_bad d k (eight_bytes part) e = sym (same_fault {A = Option ℕ} faults.Kind d e)
number_bad d k (some_bytes part) e = sym (same_fault {A = Option ℕ} faults.Kind d e)
number_bad d k (four_bytes part) e = sym (same_fault {A = Option ℕ} faults.Kind d e)

pub bytes_bad : (d : TileFault) (k : Option (List ℕ)) (v : Value) → bytes_after k v ≡ Err d → BadBytes v d
bytes_bad d k (some_bytes part) e = absurd cc
bytes_bad d k (eight_bytes part) e = sym (same_fault {A = Option (List ℕ)} faults.Kind d e)
bytes_bad d k (varint_value n) e = sym (same_fault {A = Option (List ℕ)} faults.Kind d e)
bytes_bad d k (four_bytes part) e = sym (same_fault {A = Option (List ℕ)} faults.Kind d e)

pub parts_bad : (d : TileFault) (k : List (List ℕ)) (v : Value) → parts_after k v ≡ Err d → BadBytes v d
parts_bad d k (some_bytes part) e = absurd cc
parts_bad d k (eight_bytes part) e = sym (same_fault {A = List (List ℕ)} faults.Kind d e)
parts_bad d k (varint_value n) e = sym (same_fault {A = List (List ℕ)} faults.Kind d e)
parts_bad d k (four_bytes part) e = sym (same_fault {A = List (List ℕ)} faults.Kind d e)

large : (before : List ℕ) (n : ℕ) (d : TileFault) → number_more before n ≡ Err d → (d ≡ faults.Range) × (4294967295 < n)
large before n d e = go (ltb 4294967295 n) refl e
  where
    go : (b : Bool) → ltb 4294967295 n ≡ b → ◌≡◌ {A = Read TileFault (List ℕ)} (cond b (Err faults.Range) (Ok (before ++ n ∷ []))) (Err d)
        → (d ≡ faults.Range) × (4294967295 < n)
    go true t h = (sym (same_fault {A = List ℕ} faults.Range d h), ltb-true 4294967295 n t)
    go false t h = absurd cc

packed_bad : (more : ℕ) (before bytes : List ℕ) (d : TileFault) → length bytes ≤ more → packed_in more before bytes ≡ Err d → PackedHas bytes d
unfolding packed_in
packed_bad zero before bytes d le e = absurd cc
packed_bad (suc more) before [] d le e = absurd cc
packed_bad (suc more) before (b ∷ bs) d le e = go (λ k rest h1 h2. packed_bad more k rest d h1 h2) (varint_at (b ∷ bs)) refl e
  where
    go : ((k rest : List ℕ) → length rest ≤ more → packed_in more k rest ≡ Err d → PackedHas rest d) → (r : Result (ℕ × ℕ) FaultKind) → varint_at (b ∷ bs) ≡ r
        → (or_broken r >>= λ n. number_more before n.0 >>= λ ns. packed_in more ns (drop n.1 (b ∷ bs))) ≡ Err d → PackedHas (b ∷ bs) d
    go next (Err w) read h = record {
      numbers = [];
      front = [];
      rest = b ∷ bs;
      parts = refl;
      packed = refl;
      fault = inl (
        sym (same_fault {A = List ℕ} faults.Wire d h),
        omega arith,
        λ first rest n parts spelled. never w n (length first) (sym read ∙ (ap varint_at parts ∙ spelling_is_found first rest n spelled)),
      );
    }
      where
        never : (w : FaultKind) (n len : ℕ) → ◌≡◌ {A = Result (ℕ × ℕ) FaultKind} (Err w) (Ok (n, len)) → ⊥
        never w n len h = cc
    go next (Ok x) read h =
        let v = found_is (b ∷ bs) x.0 x.1 read in
        let long : 0 < x.1 = varint_len (b ∷ bs) x read in
        elim (then_err (number_more before x.0) (λ ns. packed_in more ns (drop x.1 (b ∷ bs))) d h) [
          | inl bad ↦ record {
            numbers = [];
            front = [];
            rest = b ∷ bs;
            parts = refl;
            packed = refl;
            fault = inr (
              (large before x.0 d bad).0,
              (
                take x.1 (b ∷ bs),
                drop x.1 (b ∷ bs),
                x.0,
                sym (take-append-drop x.1 (b ∷ bs)),
                v.1,
                (large before x.0 d bad).1,
              ),
            );
          }
          | inr y ↦ (let inner = next y.0 (drop x.1 (b ∷ bs)) (omega (arith, length-drop x.1 (b ∷ bs))) y.2 in record {
            numbers = x.0 ∷ inner.numbers;
            front = take x.1 (b ∷ bs) ++ inner.front;
            rest = inner.rest;
            parts = sym (take-append-drop x.1 (b ∷ bs))
                ∙ (ap (λ (k : List ℕ). take x.1 (b ∷ bs) ++ k) inner.parts ∙ sym (append_assoc (take x.1 (b ∷ bs)) inner.front inner.rest));
            packed = (take x.1 (b ∷ bs), inner.front, refl, v.1, (more_says before y.0 x.0 y.1).1, inner.packed);
            fault = inner.fault;
          })
        ]

numbers_bad : (d : TileFault) (k : List ℕ) (v : Value) → numbers_after k v ≡ Err d → BadNumbers v d
numbers_bad d k (varint_value n) e = large k n d e
numbers_bad d k (some_bytes part) e = packed_bad (length part) k part d (omega arith) e
numbers_bad d k (eight_bytes part) e = sym (same_fault {A = List ℕ} faults.Kind d e)
numbers_bad d k (four_bytes part) e = sym (same_fault {A = List ℕ} faults.Kind d e)

-- ---- features

module _ (keys : List (List ℕ)) (values : List TagView) where
  tag_err : (used : List ℕ) (k v : ℕ) (d : TileFault) → tag_at keys values used k v ≡ Err d → d ≡ faults.Tag
  unfolding tag_at
  tag_err used k v d e = go (has_number used k) (slice_get keys k) (slice_get values v) e
    where
      go : (b : Bool) (x : Option (List ℕ)) (y : Option TagView) → ◌≡◌ {A = Read TileFault Tagged} (cond b (Err faults.Tag) (found_tag x y)) (Err d)
          → d ≡ faults.Tag
      go true x y h = sym (same_fault {A = Tagged} faults.Tag d h)
      go false (Some x) (Some y) h = absurd cc
      go false (Some x) None h = sym (same_fault {A = Tagged} faults.Tag d h)
      go false None y h = sym (same_fault {A = Tagged} faults.Tag d h)

  tags_err : (ns used : List ℕ) (before : List Tagged) (d : TileFault) → tags_at keys values used before ns ≡ Err d → d ≡ faults.Tag
  unfolding tags_at
  tags_err [] used before d e = absurd cc
  tags_err (k ∷ []) used before d e = sym (same_fault {A = List Tagged} faults.Tag d e)
  tags_err (k ∷ v ∷ ns) used before d e =
      elim (then_err (tag_at keys values used k v) (λ t. tags_at keys values (used ++ k ∷ []) (before ++ t ∷ []) ns) d e)
      [ inl bad ↦ tag_err used k v d bad | inr t ↦ tags_err ns (used ++ k ∷ []) (before ++ t.0 ∷ []) d t.2 ]

  shape_err : (r : Result ShapeView GeometryFault) (d : TileFault) → shape_read r ≡ Err d → d ≡ faults.Geometry
  shape_err (Ok x) d e = absurd cc
  shape_err (Err c) d e = sym (same_fault {A = ShapeView} faults.Geometry d e)

  pub feature_has : (bytes : List ℕ) (d : TileFault) → feature_at keys values bytes ≡ Err d → FeatureHas keys values bytes d
  unfolding feature_at feature_of_parts
  feature_has bytes d e =
      elim (then_err (last_number_in 1 bytes) _ d e) [
        | inl bad ↦ at_id (pass_has BadNumber 1 number_after None bytes d (number_bad d) bad)
        | inr id ↦
            elim (then_err (last_number_in 3 bytes) _ d id.2) [
              | inl bad ↦ at_kind (pass_has BadNumber 3 number_after None bytes d (number_bad d) bad)
              | inr kind ↦
                  elim (then_err (numbers_in 2 bytes) _ d kind.2) [
                    | inl bad ↦ at_indices (pass_has BadNumbers 2 numbers_after [] bytes d (numbers_bad d) bad)
                    | inr indices ↦
                        elim (then_err (numbers_in 4 bytes) _ d indices.2) [
                          | inl bad ↦ at_ints (pass_has BadNumbers 4 numbers_after [] bytes d (numbers_bad d) bad)
                          | inr ints ↦
                              (let whole = pass_whole 1 number_after None id.0 bytes id.1 in
                              let message = fields_message bytes whole.0 whole.1 in
                              elim (then_err (tags_at keys values [] [] indices.0) _ d ints.2) [
                                | inl bad ↦
                                    at_tags (tags_err indices.0 [] [] d bad) whole.0 message indices.0 (numbers_of 2 bytes whole.0 indices.0 whole.1 indices.1)
                                    (λ ts h. not_both ts d (sym (tags_read keys values indices.0 [] [] ts h) ∙ bad))
                                | inr tags ↦
                                    elim (then_err (shape_read (shape_at (kind_of kind.0) ints.0)) _ d tags.2) [
                                      | inl bad ↦
                                          at_shape (shape_err (shape_at (kind_of kind.0) ints.0) d bad) whole.0 message kind.0
                                          (number_says (values_of 3 whole.0) None kind.0 (sym (pass_at 3 number_after bytes whole.0 None whole.1) ∙ kind.1))
                                          ints.0 (numbers_of 4 bytes whole.0 ints.0 whole.1 ints.1)
                                          (λ s h. not_both s d (sym (ap shape_read (shape_again (kind_of kind.0) ints.0 s h)) ∙ bad))
                                      | inr shape ↦ absurd (not_both (feature id.0 tags.0 shape.0) d shape.2)
                                    ]
                              ])
                        ]
                  ]
            ]
      ]
    where
      feature : Option ℕ → List Tagged → ShapeView → FeatureView
      feature a b c = record { id = a; tags = b; shape = c }

      numbers_of : (number : ℕ) (bytes : List ℕ) (fields : List FieldData) (ns : List ℕ) → items_of bytes ≡ fine fields → numbers_in number bytes ≡ Ok ns
          → AreNumbers (values_of number fields) ns
      numbers_of number bytes fields ns e h =
          let p = numbers_say (values_of number fields) [] ns (sym (pass_at number numbers_after bytes fields [] e) ∙ h) in
          let G : List ℕ → Type 0 = λ k. AreNumbers (values_of number fields) k in subst G (sym p.1) p.2
