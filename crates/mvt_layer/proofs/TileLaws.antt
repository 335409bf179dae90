-- Reading gives exactly the layers that the bytes say.
use Rattle.std.proofs.Common.{◌≡◌, ℕ, ◌<◌, Bool, true, false, cond, eqb, ltb, ◌⊎◌, inl, inr, List, [], ◌∷◌, ◌++◌, length, Option, Some, None, Result, Ok, Err}
use Rattle.std.proofs.Common.{refl, sym, ap, subst, ◌∙◌, append_assoc, arith}
use Rattle.std.specs.Prelude.{slice_get, ◌||◌}
use Rattle.std.specs.List.{filter}
use Rattle.std.specs.Str.{IsUtf8, is_utf8}
use Rattle.std.proofs.lemmas.Str.{is_utf8-from_IsUtf8, IsUtf8-from_is_utf8}
use Rattle.std.proofs.lemmas.Bool.{eqb-true, eqb-false, ltb-false, le-ltb, ne_eqb}
use Rattle.std.proofs.lemmas.List.{append-nil}
use Rattle.reader.specs.Reading.{Read, ◌>>=◌, folded}
use Rattle.reader.proofs.Steps.{done, same_value, not_both, then_ok, then_is, guard_ok, pass_ok}
use Rattle.pb_wire.specs.Message.{Value, FieldData, IsMessage}
use Rattle.pb_wire.specs.Items.{items_of}
use Rattle.pb_wire.proofs.MessageLaws.{items_message, message_items}
use Rattle.geometry_commands.specs.declared.decoding.GeometryFault.{GeometryFault}
use Rattle.geometry_commands.specs.Shapes.{ShapeView}
use Rattle.geometry_commands.specs.Decoding.{shape_at}
use Rattle.geometry_commands.proofs.Shaped.{shape_found, shape_again}
use Rattle.mvt_layer.specs.declared.fault.TileFault.{TileFault}
use Rattle.mvt_layer.specs.declared.fault.TileFault.TheVariants as faults
use Rattle.mvt_layer.specs.declared.layers.TheConstants.{DEFAULT_EXTENT, DEFAULT_VERSION, CURRENT_VERSION}
use Rattle.mvt_layer.specs.Tile.{TagView, Tagged, FeatureView, LayerView}
use Rattle.mvt_layer.specs.Reading.{after, pass, number_after, bytes_after, parts_after, numbers_after, last_number_in, last_bytes_in, numbers_in, parts_in}
use Rattle.mvt_layer.specs.Reading.{text_at, is_known, has_kind, may_follow, value_after, last_value_in, meant, tag_value_at, part_more, each_in, kind_of}
use Rattle.mvt_layer.specs.Reading.{shape_read, has_number, found_tag, tag_at, tags_at, feature_of_parts, feature_at, name_at, small_at, version_at, extent_at}
use Rattle.mvt_layer.specs.Reading.{layer_at, has_name, layer_more, tile_at}
use Rattle.mvt_layer.specs.Reads.{values_of, AreParts, Each, AreNumbers, LastValue, SaysValue, AreTags, SaysFeature, IsText, SmallOr, SaysLayer, AreNamed}
use Rattle.mvt_layer.specs.Reads.{ReadsAs}
use Rattle.mvt_layer.proofs.Said.{fine, whole_of, pass_at, number_says, number_reads, bytes_says, bytes_reads, parts_say, parts_read, numbers_say, numbers_read}

-- ---- fields

pub fields_message : (bytes : List ℕ) (fields : List FieldData) → items_of bytes ≡ fine fields → IsMessage bytes fields
fields_message bytes fields e = items_message (length bytes) 0 bytes fields (omega arith) e

pub message_fields : (bytes : List ℕ) (fields : List FieldData) → IsMessage bytes fields → items_of bytes ≡ fine fields
message_fields bytes fields h = message_items fields 0 bytes h

-- a pass that ends without a fault has gone over a message
pub pass_whole : {S : Type 0} (number : ℕ) (step : S → Value → Read TileFault S) (s last : S) (bytes : List ℕ) → pass number step s bytes ≡ Ok last
    → (fields : List FieldData) × (items_of bytes ≡ fine fields)
pass_whole number step s last bytes e = whole_of (after number step) (λ s w. refl) (items_of bytes) s last e

-- ---- texts and values

pub text_says : (bytes text : List ℕ) → text_at bytes ≡ Ok text → IsText bytes text
text_says bytes text e =
    let p = pass_ok (is_utf8 bytes) faults.Utf8 (Ok bytes) text e in
    (sym (same_value {Fault = TileFault} bytes text p.1), IsUtf8-from_is_utf8 bytes p.0)

pub text_reads : (bytes text : List ℕ) → IsText bytes text → text_at bytes ≡ Ok text
text_reads bytes text h = rw (is_utf8-from_IsUtf8 bytes h.1, h.0) refl

pub value_says : (fields : List FieldData) (before last : Option FieldData) → folded value_after before (fine fields) ≡ Ok last
    → LastValue before (filter (λ f. is_known f.number) fields) last
unfolding folded
value_says [] before last e = sym (same_value {Fault = TileFault} before last e)
value_says (f ∷ fs) before last e = go (value_says fs) (is_known f.number) e
  where
    K : List FieldData
    K = filter (λ f. is_known f.number) fs

    go : ((b l : Option FieldData) → folded value_after b (fine fs) ≡ Ok l → LastValue b (filter (λ f. is_known f.number) fs) l) → (b : Bool)
        → (cond b (cond (has_kind f.number f.value) (cond (may_follow before f.number) (Ok (Some f)) (Err faults.Value)) (Err faults.Kind)) (Ok before)
        >>= λ next. folded value_after next (fine fs)) ≡ Ok last → LastValue before (cond b (f ∷ filter (λ f. is_known f.number) fs)
        (filter (λ f. is_known f.number) fs)) last
    go more true h =
        let one = then_ok (cond (has_kind f.number f.value) (cond (may_follow before f.number) (Ok (Some f)) (Err faults.Value)) (Err faults.Kind))
        (λ next. folded value_after next (fine fs)) last h in
        let kind = pass_ok (has_kind f.number f.value) faults.Kind (cond (may_follow before f.number) (Ok (Some f)) (Err faults.Value)) one.0 one.1 in
        let follows = pass_ok (may_follow before f.number) faults.Value (Ok (Some f)) one.0 kind.1 in (
          kind.0,
          follows.0,
          more (Some f) last (ap (λ (n : Option FieldData). folded value_after n (fine fs))
              (same_value {Fault = TileFault} (Some f) one.0 follows.1) ∙ one.2),
        )
    go more false h = more before last h

value_reads : (fields : List FieldData) (before last : Option FieldData) → LastValue before (filter (λ f. is_known f.number) fields) last
    → folded value_after before (fine fields) ≡ Ok last
unfolding folded
value_reads [] before last h = ap (done {Fault = TileFault}) (sym h)
value_reads (f ∷ fs) before last h = go (value_reads fs) (is_known f.number) h
  where
    go : ((b l : Option FieldData) → LastValue b (filter (λ f. is_known f.number) fs) l → folded value_after b (fine fs) ≡ Ok l) → (b : Bool)
        → LastValue before (cond b (f ∷ filter (λ f. is_known f.number) fs) (filter (λ f. is_known f.number) fs)) last
        → (cond b (cond (has_kind f.number f.value) (cond (may_follow before f.number) (Ok (Some f)) (Err faults.Value)) (Err faults.Kind)) (Ok before)
        >>= λ next. folded value_after next (fine fs)) ≡ Ok last
    go more true h = rw (h.0, h.1) (more (Some f) last h.2)
    go more false h = more before last h

pub tag_value_says : (bytes : List ℕ) (v : TagView) → tag_value_at bytes ≡ Ok v → SaysValue bytes v
unfolding tag_value_at
tag_value_says bytes v e =
    let last = then_ok (last_value_in bytes) meant v e in
    let whole = whole_of value_after (λ s w. refl) (items_of bytes) None last.0 last.1 in
    go last.0 whole.0 (fields_message bytes whole.0 whole.1) (value_says whole.0 None last.0 (ap (folded value_after None) (sym whole.1) ∙ last.1)) last.2
  where
    go : (last : Option FieldData) (fields : List FieldData) → IsMessage bytes fields → LastValue None (filter (λ f. is_known f.number) fields) last
        → meant last ≡ Ok v
        → SaysValue bytes v
    go None fields message is e = absurd (not_both {Fault = TileFault} v _ (sym e))
    go (Some f) fields message is e = record { fields = fields; message = message; field = f; last = is; means = e }

tag_value_reads : (bytes : List ℕ) (v : TagView) → SaysValue bytes v → tag_value_at bytes ≡ Ok v
unfolding tag_value_at
tag_value_reads bytes v h =
    then_is (last_value_in bytes) meant (Some h.field) (Ok v) (ap (folded value_after None) (message_fields bytes h.fields h.message)
    ∙ value_reads h.fields None (Some h.field) h.last) h.means

-- ---- lists of parts

module _ {X : Type 0} (read : List ℕ → Read TileFault X) (Says : List ℕ → X → Type 0) where
  each_say : ((p : List ℕ) (x : X) → read p ≡ Ok x → Says p x) → (parts : List (List ℕ)) (before all : List X) → folded (part_more read) before parts ≡ Ok all
      → (xs : List X) × (all ≡ before ++ xs) × Each Says parts xs
  unfolding folded
  each_say says [] before all e = ([], sym (same_value {Fault = TileFault} before all e) ∙ sym (append-nil before), tt)
  each_say says (p ∷ ps) before all e =
      let one = then_ok (read p >>= λ x. Ok (before ++ x ∷ [])) (λ next. folded (part_more read) next ps) all e in
      let x = then_ok (read p) (λ x. Ok (before ++ x ∷ [])) one.0 one.1 in
      let more = each_say says ps one.0 all one.2 in (
        x.0 ∷ more.0,
        more.1 ∙ (ap (λ (k : List X). k ++ more.0) (sym (same_value {Fault = TileFault} (before ++ x.0 ∷ []) one.0 x.2))
            ∙ append_assoc before (x.0 ∷ []) more.0),
        (says p x.0 x.1, more.2),
      )

  each_read : ((p : List ℕ) (x : X) → Says p x → read p ≡ Ok x) → (parts : List (List ℕ)) (before xs : List X) → Each Says parts xs
      → folded (part_more read) before parts ≡ Ok (before ++ xs)
  unfolding folded
  each_read reads [] before [] h = ap (done {Fault = TileFault}) (sym (append-nil before))
  each_read reads [] before (x ∷ xs) h = absurd h
  each_read reads (p ∷ ps) before [] h = absurd h
  each_read reads (p ∷ ps) before (x ∷ xs) h =
      then_is (read p >>= λ y. Ok (before ++ y ∷ [])) (λ next. folded (part_more read) next ps) (before ++ x ∷ []) (Ok (before ++ x ∷ xs))
      (then_is (read p) (λ y. Ok (before ++ y ∷ [])) x (Ok (before ++ x ∷ [])) (reads p x h.0) refl)
      (each_read reads ps (before ++ x ∷ []) xs h.1 ∙ ap (done {Fault = TileFault}) (append_assoc before (x ∷ []) xs))

-- ---- tags

module _ (keys : List (List ℕ)) (values : List TagView) where
  tag_says : (used : List ℕ) (k v : ℕ) (t : Tagged) → tag_at keys values used k v ≡ Ok t
      → (has_number used k ≡ false) × (slice_get keys k ≡ Some t.0) × (slice_get values v ≡ Some t.1)
  unfolding tag_at
  tag_says used k v t e =
      let p = guard_ok (has_number used k) faults.Tag (found_tag (slice_get keys k) (slice_get values v)) t e in
      let q = go (slice_get keys k) (slice_get values v) p.1 in
      (p.0, q.0, q.1)
    where
      go : (a : Option (List ℕ)) (b : Option TagView) → found_tag a b ≡ Ok t → (a ≡ Some t.0) × (b ≡ Some t.1)
      go (Some a) (Some b) h = let same = same_value {Fault = TileFault} (a, b) t h in (ap (λ (q : Tagged). Some q.0) same, ap (λ (q : Tagged). Some q.1) same)
      go (Some a) None h = absurd (not_both {Fault = TileFault} t _ (sym h))
      go None b h = absurd (not_both {Fault = TileFault} t _ (sym h))

  tag_reads : (used : List ℕ) (k v : ℕ) (t : Tagged) → has_number used k ≡ false → slice_get keys k ≡ Some t.0 → slice_get values v ≡ Some t.1
      → tag_at keys values used k v ≡ Ok t
  unfolding tag_at
  tag_reads used k v t e1 e2 e3 = rw (e1, e2, e3) refl

  tags_say : (ns used : List ℕ) (before all : List Tagged) → tags_at keys values used before ns ≡ Ok all
      → (ts : List Tagged) × (all ≡ before ++ ts) × AreTags keys values used ns ts
  unfolding tags_at
  tags_say [] used before all e = ([], sym (same_value {Fault = TileFault} before all e) ∙ sym (append-nil before), refl)
  tags_say (k ∷ []) used before all e = absurd (not_both {Fault = TileFault} all _ (sym e))
  tags_say (k ∷ v ∷ ns) used before all e =
      let t = then_ok (tag_at keys values used k v) (λ t. tags_at keys values (used ++ k ∷ []) (before ++ t ∷ []) ns) all e in
      let says = tag_says used k v t.0 t.1 in
      let more = tags_say ns (used ++ k ∷ []) (before ++ t.0 ∷ []) all t.2 in
      (t.0 ∷ more.0, more.1 ∙ append_assoc before (t.0 ∷ []) more.0, (t.0, more.0, refl, says.0, says.1, says.2, more.2))

  pub tags_read : (ns used : List ℕ) (before ts : List Tagged) → AreTags keys values used ns ts → tags_at keys values used before ns ≡ Ok (before ++ ts)
  unfolding tags_at
  tags_read [] used before ts h = ap (done {Fault = TileFault}) (sym (append-nil before) ∙ ap (λ (k : List Tagged). before ++ k) (sym h))
  tags_read (k ∷ []) used before ts h = absurd h
  tags_read (k ∷ v ∷ ns) used before ts (t, rest, is, e1, e2, e3, others) =
      then_is (tag_at keys values used k v) (λ t. tags_at keys values (used ++ k ∷ []) (before ++ t ∷ []) ns) t (Ok (before ++ ts))
      (tag_reads used k v t e1 e2 e3)
      (tags_read ns (used ++ k ∷ []) (before ++ t ∷ []) rest others
      ∙ ap (done {Fault = TileFault}) (append_assoc before (t ∷ []) rest ∙ ap (λ (q : List Tagged). before ++ q) (sym is)))

-- ---- features

shape_says : (r : Result ShapeView GeometryFault) (s : ShapeView) → shape_read r ≡ Ok s → r ≡ Ok s
shape_says (Ok x) s e = ap (done {Fault = GeometryFault}) (same_value {Fault = TileFault} x s e)
shape_says (Err d) s e = absurd (not_both {Fault = TileFault} s _ (sym e))

module _ (keys : List (List ℕ)) (values : List TagView) where
  feature_says : (bytes : List ℕ) (f : FeatureView) → feature_at keys values bytes ≡ Ok f → SaysFeature keys values bytes f
  unfolding feature_at feature_of_parts
  feature_says bytes f e =
      let id = then_ok (last_number_in 1 bytes) _ f e in
      let kind = then_ok (last_number_in 3 bytes) _ f id.2 in
      let indices = then_ok (numbers_in 2 bytes) _ f kind.2 in
      let ints = then_ok (numbers_in 4 bytes) _ f indices.2 in
      let tags = then_ok (tags_at keys values [] [] indices.0) _ f ints.2 in
      let shape = then_ok (shape_read (shape_at (kind_of kind.0) ints.0)) _ f tags.2 in
      let whole = pass_whole 1 number_after None id.0 bytes id.1 in
      let F : FeatureView → Type 0 = λ q. SaysFeature keys values bytes q in
      let ns = numbers_say (values_of 2 whole.0) [] indices.0 (sym (pass_at 2 numbers_after bytes whole.0 [] whole.1) ∙ indices.1) in
      let ms = numbers_say (values_of 4 whole.0) [] ints.0 (sym (pass_at 4 numbers_after bytes whole.0 [] whole.1) ∙ ints.1) in
      let ts = tags_say keys values indices.0 [] [] tags.0 tags.1 in
      subst F (same_value {Fault = TileFault} (record { id = id.0; tags = tags.0; shape = shape.0 }) f shape.2) (record {
        fields = whole.0;
        message = fields_message bytes whole.0 whole.1;
        id = number_says (values_of 1 whole.0) None id.0 (sym (pass_at 1 number_after bytes whole.0 None whole.1) ∙ id.1);
        kind = kind.0;
        kind_is = number_says (values_of 3 whole.0) None kind.0 (sym (pass_at 3 number_after bytes whole.0 None whole.1) ∙ kind.1);
        indices = indices.0;
        indices_are = let G : List ℕ → Type 0 = λ k. AreNumbers (values_of 2 whole.0) k in subst G (sym ns.1) ns.2;
        ints = ints.0;
        ints_are = let G : List ℕ → Type 0 = λ k. AreNumbers (values_of 4 whole.0) k in subst G (sym ms.1) ms.2;
        tags = let G : List Tagged → Type 0 = λ k. AreTags keys values [] indices.0 k in subst G (sym ts.1) ts.2;
        shape = shape_found (kind_of kind.0) ints.0 shape.0 (shape_says (shape_at (kind_of kind.0) ints.0) shape.0 shape.1);
      })

  feature_reads : (bytes : List ℕ) (f : FeatureView) → SaysFeature keys values bytes f → feature_at keys values bytes ≡ Ok f
  unfolding feature_at feature_of_parts
  feature_reads bytes f h =
      let e = message_fields bytes h.fields h.message in
      then_is (last_number_in 1 bytes) _ f.id (Ok f) (pass_at 1 number_after bytes h.fields None e ∙ number_reads (values_of 1 h.fields) None f.id h.id)
      (then_is (last_number_in 3 bytes) _ h.kind (Ok f) (pass_at 3 number_after bytes h.fields None e
      ∙ number_reads (values_of 3 h.fields) None h.kind h.kind_is)
      (then_is (numbers_in 2 bytes) _ h.indices (Ok f) (pass_at 2 numbers_after bytes h.fields [] e
      ∙ numbers_read (values_of 2 h.fields) [] h.indices h.indices_are)
      (then_is (numbers_in 4 bytes) _ h.ints (Ok f) (pass_at 4 numbers_after bytes h.fields [] e ∙ numbers_read (values_of 4 h.fields) [] h.ints h.ints_are)
      (then_is (tags_at keys values [] [] h.indices) _ f.tags (Ok f) (tags_read keys values h.indices [] [] f.tags h.tags)
      (then_is (shape_read (shape_at (kind_of h.kind) h.ints)) _ f.shape (Ok f) (ap shape_read (shape_again (kind_of h.kind) h.ints f.shape h.shape)) refl)))))

-- ---- layers

pub name_says : (last : Option (List ℕ)) (name : List ℕ) → name_at last ≡ Ok name → (last ≡ Some name) × IsUtf8 name
name_says None name e = absurd (not_both {Fault = TileFault} name _ (sym e))
name_says (Some part) name e =
    let t = text_says part name e in (ap (λ (k : List ℕ). Some k) (sym t.0), let G : List ℕ → Type 0 = λ k. IsUtf8 k in subst G (sym t.0) t.1)

pub small_says : (otherwise : ℕ) (last : Option ℕ) (n : ℕ) → small_at otherwise last ≡ Ok n → SmallOr otherwise last n
small_says otherwise None n e = sym (same_value {Fault = TileFault} otherwise n e)
small_says otherwise (Some m) n e =
    let p = guard_ok (ltb 4294967295 m) faults.Range (Ok m) n e in
    (sym (same_value {Fault = TileFault} m n p.1), omega (arith, ltb-false 4294967295 m p.0))

small_reads : (otherwise : ℕ) (last : Option ℕ) (n : ℕ) → SmallOr otherwise last n → small_at otherwise last ≡ Ok n
small_reads otherwise None n h = ap (done {Fault = TileFault}) (sym h)
small_reads otherwise (Some m) n h = let t : ltb 4294967295 m ≡ false = le-ltb 4294967295 m (omega arith) in rw t (ap (done {Fault = TileFault}) (sym h.0))

either_true : (a b : Bool) → (a || b) ≡ true → (a ≡ true) ⊎ (b ≡ true)
either_true true b e = inl refl
either_true false b e = inr e

version_says : (last : Option ℕ) (n : ℕ) → version_at last ≡ Ok n → SmallOr DEFAULT_VERSION last n × ((n ≡ DEFAULT_VERSION) ⊎ (n ≡ CURRENT_VERSION))
unfolding version_at
version_says last n e =
    let m = then_ok (small_at DEFAULT_VERSION last) _ n e in
    let p = pass_ok (eqb m.0 DEFAULT_VERSION || eqb m.0 CURRENT_VERSION) faults.Version (Ok m.0) n m.2 in
    let same = same_value {Fault = TileFault} m.0 n p.1 in
    let F : ℕ → Type 0 = λ k. SmallOr DEFAULT_VERSION last k × ((k ≡ DEFAULT_VERSION) ⊎ (k ≡ CURRENT_VERSION)) in
    subst F same (
      small_says DEFAULT_VERSION last m.0 m.1,
      elim (either_true (eqb m.0 DEFAULT_VERSION) (eqb m.0 CURRENT_VERSION) p.0)
          [ inl a ↦ inl (eqb-true m.0 DEFAULT_VERSION a) | inr b ↦ inr (eqb-true m.0 CURRENT_VERSION b) ],
    )

version_reads : (last : Option ℕ) (n : ℕ) → SmallOr DEFAULT_VERSION last n → (n ≡ DEFAULT_VERSION) ⊎ (n ≡ CURRENT_VERSION) → version_at last ≡ Ok n
unfolding version_at
version_reads last n h known = then_is (small_at DEFAULT_VERSION last) _ n (Ok n) (small_reads DEFAULT_VERSION last n h) (go n known)
  where
    go : (n : ℕ) → (n ≡ DEFAULT_VERSION) ⊎ (n ≡ CURRENT_VERSION) → cond (eqb n DEFAULT_VERSION || eqb n CURRENT_VERSION) (done n) (Err faults.Version) ≡ Ok n
    go n (inl e) = rw e refl
    go n (inr e) = rw e refl

extent_says : (last : Option ℕ) (n : ℕ) → extent_at last ≡ Ok n → SmallOr DEFAULT_EXTENT last n × (0 < n)
unfolding extent_at
extent_says last n e =
    let m = then_ok (small_at DEFAULT_EXTENT last) _ n e in
    let p = guard_ok (eqb m.0 0) faults.Extent (Ok m.0) n m.2 in
    let same = same_value {Fault = TileFault} m.0 n p.1 in
    let F : ℕ → Type 0 = λ k. SmallOr DEFAULT_EXTENT last k × (0 < k) in
    let ne = eqb-false m.0 0 p.0 in
    subst F same (small_says DEFAULT_EXTENT last m.0 m.1, omega arith)

extent_reads : (last : Option ℕ) (n : ℕ) → SmallOr DEFAULT_EXTENT last n → 0 < n → extent_at last ≡ Ok n
unfolding extent_at
extent_reads last n h some =
    let t : eqb n 0 ≡ false = ne_eqb n 0 (λ z. absurd (omega (arith, z))) in
    then_is (small_at DEFAULT_EXTENT last) _ n (Ok n) (small_reads DEFAULT_EXTENT last n h) (rw t refl)

pub parts_of : (number : ℕ) (bytes : List ℕ) (fields : List FieldData) (raw : List (List ℕ)) → items_of bytes ≡ fine fields → parts_in number bytes ≡ Ok raw
    → AreParts (values_of number fields) raw
parts_of number bytes fields raw e h =
    let p = parts_say (values_of number fields) [] raw (sym (pass_at number parts_after bytes fields [] e) ∙ h) in
    let G : List (List ℕ) → Type 0 = λ k. AreParts (values_of number fields) k in
    subst G (sym p.1) p.2

parts_back : (number : ℕ) (bytes : List ℕ) (fields : List FieldData) (raw : List (List ℕ)) → items_of bytes ≡ fine fields
    → AreParts (values_of number fields) raw
    → parts_in number bytes ≡ Ok raw
parts_back number bytes fields raw e h = pass_at number parts_after bytes fields [] e ∙ (ap (folded parts_after []) h ∙ parts_read raw [])

pub each_of : {X : Type 0} (read : List ℕ → Read TileFault X) (Says : List ℕ → X → Type 0) → ((p : List ℕ) (x : X) → read p ≡ Ok x → Says p x)
    → (parts : List (List ℕ)) (xs : List X) → each_in read parts ≡ Ok xs → Each Says parts xs
each_of {X} read Says says parts xs e =
    let p = each_say read Says says parts [] xs e in
    let G : List X → Type 0 = λ k. Each Says parts k in
    subst G (sym p.1) p.2

-- a step that was made, and the rest after it
then_case : {A B P : Type 0} (first : Read TileFault A) (next : A → Read TileFault B) (y : B) → (first >>= next) ≡ Ok y
    → ((x : A) → first ≡ Ok x → next x ≡ Ok y → P) → P
then_case first next y e go = let one = then_ok first next y e in go one.0 one.1 one.2

pub layer_says : (bytes : List ℕ) (l : LayerView) → layer_at bytes ≡ Ok l → SaysLayer bytes l
unfolding layer_at
layer_says bytes l e =
    then_case (last_bytes_in 1 bytes) _ l e (λ raw_name raw_name_is e1.
    then_case (name_at raw_name) _ l e1 (λ name name_is e2.
    then_case (last_number_in 15 bytes) _ l e2 (λ raw_version raw_version_is e3.
    then_case (version_at raw_version) _ l e3 (λ version version_is e4.
    then_case (last_number_in 5 bytes) _ l e4 (λ raw_extent raw_extent_is e5.
    then_case (extent_at raw_extent) _ l e5 (λ extent extent_is e6.
    then_case (parts_in 3 bytes) _ l e6 (λ raw_keys raw_keys_are e7.
    then_case (each_in text_at raw_keys) _ l e7 (λ keys keys_are e8.
    then_case (parts_in 4 bytes) _ l e8 (λ raw_values raw_values_are e9.
    then_case (each_in tag_value_at raw_values) _ l e9 (λ values values_are e10.
    then_case (parts_in 2 bytes) _ l e10 (λ raw_features raw_features_are e11.
    then_case (each_in (feature_at keys values) raw_features) _ l e11 (λ features features_are e12.
    let whole = pass_whole 1 bytes_after None raw_name bytes raw_name_is in
    let named = name_says raw_name name name_is in
    let versions = version_says raw_version version version_is in
    let extents = extent_says raw_extent extent extent_is in
    let F : LayerView → Type 0 = λ k. SaysLayer bytes k in
    subst F (same_value {Fault = TileFault} (record { name = name; version = version; extent = extent; features = features }) l e12) (record {
      fields = whole.0;
      message = fields_message bytes whole.0 whole.1;
      name = bytes_says (values_of 1 whole.0) None (Some name) (sym (pass_at 1 bytes_after bytes whole.0 None whole.1)
          ∙ (raw_name_is ∙ ap (done {Fault = TileFault}) named.0));
      name_text = named.1;
      raw_version = raw_version;
      raw_version_is = number_says (values_of 15 whole.0) None raw_version (sym (pass_at 15 number_after bytes whole.0 None whole.1) ∙ raw_version_is);
      version = versions.0;
      version_known = versions.1;
      raw_extent = raw_extent;
      raw_extent_is = number_says (values_of 5 whole.0) None raw_extent (sym (pass_at 5 number_after bytes whole.0 None whole.1) ∙ raw_extent_is);
      extent = extents.0;
      extent_some = extents.1;
      raw_keys = raw_keys;
      raw_keys_are = parts_of 3 bytes whole.0 raw_keys whole.1 raw_keys_are;
      keys = keys;
      keys_are = each_of text_at IsText text_says raw_keys keys keys_are;
      raw_values = raw_values;
      raw_values_are = parts_of 4 bytes whole.0 raw_values whole.1 raw_values_are;
      values = values;
      values_are = each_of tag_value_at SaysValue tag_value_says raw_values values values_are;
      raw_features = raw_features;
      raw_features_are = parts_of 2 bytes whole.0 raw_features whole.1 raw_features_are;
      features = each_of (feature_at keys values) (SaysFeature keys values) (feature_says keys values) raw_features features features_are;
    })))))))))))))

layer_reads : (bytes : List ℕ) (l : LayerView) → SaysLayer bytes l → layer_at bytes ≡ Ok l
unfolding layer_at
layer_reads bytes l h =
    let e = message_fields bytes h.fields h.message in
    then_is (last_bytes_in 1 bytes) _ (Some l.name) (Ok l) (pass_at 1 bytes_after bytes h.fields None e
    ∙ bytes_reads (values_of 1 h.fields) None (Some l.name) h.name)
    (then_is (name_at (Some l.name)) _ l.name (Ok l) (text_reads l.name l.name (refl, h.name_text))
    (then_is (last_number_in 15 bytes) _ h.raw_version (Ok l) (pass_at 15 number_after bytes h.fields None e
    ∙ number_reads (values_of 15 h.fields) None h.raw_version h.raw_version_is)
    (then_is (version_at h.raw_version) _ l.version (Ok l) (version_reads h.raw_version l.version h.version h.version_known)
    (then_is (last_number_in 5 bytes) _ h.raw_extent (Ok l) (pass_at 5 number_after bytes h.fields None e
    ∙ number_reads (values_of 5 h.fields) None h.raw_extent h.raw_extent_is)
    (then_is (extent_at h.raw_extent) _ l.extent (Ok l) (extent_reads h.raw_extent l.extent h.extent h.extent_some)
    (then_is (parts_in 3 bytes) _ h.raw_keys (Ok l) (parts_back 3 bytes h.fields h.raw_keys e h.raw_keys_are)
    (then_is (each_in text_at h.raw_keys) _ h.keys (Ok l) (each_read text_at IsText text_reads h.raw_keys [] h.keys h.keys_are)
    (then_is (parts_in 4 bytes) _ h.raw_values (Ok l) (parts_back 4 bytes h.fields h.raw_values e h.raw_values_are)
    (then_is (each_in tag_value_at h.raw_values) _ h.values (Ok l) (each_read tag_value_at SaysValue tag_value_reads h.raw_values [] h.values h.values_are)
    (then_is (parts_in 2 bytes) _ h.raw_features (Ok l) (parts_back 2 bytes h.fields h.raw_features e h.raw_features_are)
    (then_is (each_in (feature_at h.keys h.values) h.raw_features) _ l.features (Ok l)
    (each_read (feature_at h.keys h.values) (SaysFeature h.keys h.values) (feature_reads h.keys h.values) h.raw_features [] l.features h.features)
    refl)))))))))))

-- ---- tiles

pub layers_say : (parts : List (List ℕ)) (before all : List LayerView) → folded layer_more before parts ≡ Ok all
    → (ls : List LayerView) × (all ≡ before ++ ls) × Each SaysLayer parts ls × AreNamed before ls
unfolding folded
layers_say [] before all e = ([], sym (same_value {Fault = TileFault} before all e) ∙ sym (append-nil before), tt, tt)
layers_say (p ∷ ps) before all e =
    let one = then_ok (layer_more before p) (λ next. folded layer_more next ps) all e in
    let l = then_ok (layer_at p) (λ l. cond (has_name before l.name) (Err faults.LayerTwice) (Ok (before ++ l ∷ []))) one.0 one.1 in
    let new = guard_ok (has_name before l.0.name) faults.LayerTwice (Ok (before ++ l.0 ∷ [])) one.0 l.2 in
    let same : before ++ l.0 ∷ [] ≡ one.0 = same_value {Fault = TileFault} (before ++ l.0 ∷ []) one.0 new.1 in
    let more = layers_say ps (before ++ l.0 ∷ []) all (ap (λ (k : List LayerView). folded layer_more k ps) same ∙ one.2) in
    (l.0 ∷ more.0, more.1 ∙ append_assoc before (l.0 ∷ []) more.0, (layer_says p l.0 l.1, more.2), (new.0, more.3))

layers_read : (parts : List (List ℕ)) (before ls : List LayerView) → Each SaysLayer parts ls → AreNamed before ls
    → folded layer_more before parts ≡ Ok (before ++ ls)
unfolding folded
layers_read [] before [] h named = ap (done {Fault = TileFault}) (sym (append-nil before))
layers_read [] before (l ∷ ls) h named = absurd h
layers_read (p ∷ ps) before [] h named = absurd h
layers_read (p ∷ ps) before (l ∷ ls) h named =
    then_is (layer_more before p) (λ next. folded layer_more next ps) (before ++ l ∷ []) (Ok (before ++ l ∷ ls))
    (then_is (layer_at p) (λ k. cond (has_name before k.name) (Err faults.LayerTwice) (Ok (before ++ k ∷ []))) l (Ok (before ++ l ∷ [])) (layer_reads p l h.0)
    (rw (named.0) refl))
    (layers_read ps (before ++ l ∷ []) ls h.1 named.1 ∙ ap (done {Fault = TileFault}) (append_assoc before (l ∷ []) ls))

pub tile_says : (bytes : List ℕ) (ls : List LayerView) → tile_at bytes ≡ Ok ls → ReadsAs bytes ls
unfolding tile_at
tile_says bytes ls e =
    let raw = then_ok (parts_in 3 bytes) _ ls e in
    let whole = pass_whole 3 parts_after [] raw.0 bytes raw.1 in
    let says = layers_say raw.0 [] ls raw.2 in
    let F : List LayerView → Type 0 = λ k. ReadsAs bytes k in
    subst F (sym says.1) (record {
      fields = whole.0;
      message = fields_message bytes whole.0 whole.1;
      parts = raw.0;
      parts_are = parts_of 3 bytes whole.0 raw.0 whole.1 raw.1;
      layers = says.2;
      named = says.3;
    })

pub tile_reads : (bytes : List ℕ) (ls : List LayerView) → ReadsAs bytes ls → tile_at bytes ≡ Ok ls
unfolding tile_at
tile_reads bytes ls h =
    then_is (parts_in 3 bytes) _ h.parts (Ok ls) (parts_back 3 bytes h.fields h.parts (message_fields bytes h.fields h.message) h.parts_are)
    (layers_read h.parts [] ls h.layers h.named)
