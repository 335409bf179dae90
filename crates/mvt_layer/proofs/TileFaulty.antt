-- The fault that reading a layer or a tile meets is one that the bytes have.
use Rattle.std.proofs.Common.{◌≡◌, ℕ, ◌<◌, Bool, true, false, cond, eqb, ltb, ◌⊎◌, inl, inr, List, [], ◌∷◌, ◌++◌, length, map, Option, Some, None, Ok}
use Rattle.std.proofs.Common.{Err, refl, sym, ap, subst, ◌∙◌, append_assoc, arith}
use Rattle.std.specs.Prelude.{◌||◌, not}
use Rattle.std.specs.List.{filter}
use Rattle.std.specs.Str.{IsUtf8, is_utf8}
use Rattle.std.proofs.lemmas.Bool.{eqb-true, eqb-false, ltb-true}
use Rattle.reader.specs.Reading.{Read, ◌>>=◌, folded}
use Rattle.reader.proofs.Steps.{same_value, same_fault, not_both, then_ok, then_err, guard_ok, pass_ok}
use Rattle.pb_wire.specs.Message.{Value, varint_value, eight_bytes, some_bytes, four_bytes, FieldData, IsMessage}
use Rattle.pb_wire.specs.Items.{Item, items_of}
use Rattle.pb_wire.proofs.MessageLaws.{message_items}
use Rattle.mvt_layer.specs.declared.fault.TileFault.{TileFault}
use Rattle.mvt_layer.specs.declared.fault.TileFault.TheVariants as faults
use Rattle.mvt_layer.specs.declared.layers.TheConstants.{DEFAULT_EXTENT, DEFAULT_VERSION, CURRENT_VERSION}
use Rattle.mvt_layer.specs.Tile.{TagView, FeatureView, LayerView, text, natural, truth}
use Rattle.mvt_layer.specs.Reading.{number_after, bytes_after, parts_after, last_number_in, last_bytes_in, parts_in, text_at, is_known, has_kind, may_follow}
use Rattle.mvt_layer.specs.Reading.{value_after, last_value_in, meaning, meant, tag_value_at, plain_tag, zigzag_tag, part_more, each_in, feature_at, name_at}
use Rattle.mvt_layer.specs.Reading.{small_at, version_at, extent_at, layer_at, has_name, layer_more, tile_at}
use Rattle.mvt_layer.specs.Reads.{values_of, LastNumber, LastBytes, AreParts, Each, LastValue, SaysValue, IsText, SaysLayer}
use Rattle.mvt_layer.specs.Faulty.{HasField, BadNumber, BadBytes, ValueHas, value_broken, value_kind, two_kinds, no_kind, value_text, IsAmong, LayerHas}
use Rattle.mvt_layer.specs.Faulty.{at_name, at_version, at_extent, at_keys, at_values, at_features, no_name, name_text, large_number, other_version, no_extent}
use Rattle.mvt_layer.specs.Faulty.{key_text, in_value, in_feature, TileHas, at_layers, in_layer, layer_twice}
use Rattle.mvt_layer.proofs.Said.{fine, whole_of, pass_at, number_says, bytes_says}
use Rattle.mvt_layer.proofs.TileLaws.{fields_message, pass_whole, text_says, text_reads, value_says, parts_of, each_of, tag_value_says, layer_says}
use Rattle.mvt_layer.proofs.FaultyLaws.{no_fault, fine_snoc, items_begin, pass_has, number_bad, bytes_bad, parts_bad, feature_has}

-- ---- texts and values

text_err : (p : List ℕ) (d : TileFault) → text_at p ≡ Err d → (d ≡ faults.Utf8) × (IsUtf8 p → ⊥)
text_err p d e = (go (is_utf8 p) e, λ h. not_both p d (sym (text_reads p p (refl, h)) ∙ e))
  where
    go : (b : Bool) → ◌≡◌ {A = Read TileFault (List ℕ)} (cond b (Ok p) (Err faults.Utf8)) (Err d) → d ≡ faults.Utf8
    go true h = absurd cc
    go false h = sym (same_fault {A = List ℕ} faults.Utf8 d h)

stands : (bytes : List ℕ) (front : List FieldData) (f : FieldData) (others : List Item) → items_of bytes ≡ fine front ++ Ok f ∷ others → HasField bytes f
stands bytes front f others e = (front, items_begin (length bytes) 0 bytes (front ++ f ∷ []) others (e ∙ fine_snoc front f others))

abbrev Seen : List ℕ → Option FieldData → Type 0
Seen bytes None = Unit {0}
Seen bytes (Some g) = HasField bytes g × (is_known g.number ≡ true)

abbrev chosen : Option FieldData → FieldData → Read TileFault (Option FieldData)
chosen s f = cond (has_kind f.number f.value) (cond (may_follow s f.number) (Ok (Some f)) (Err faults.Value)) (Err faults.Kind)

chosen_err : (bytes : List ℕ) (s : Option FieldData) (f : FieldData) (d : TileFault) → HasField bytes f → is_known f.number ≡ true → Seen bytes s
    → chosen s f ≡ Err d
    → ValueHas bytes d
chosen_err bytes s f d here known seen e = go (has_kind f.number f.value) refl s seen e
  where
    go : (b : Bool) → has_kind f.number f.value ≡ b → (s : Option FieldData) → Seen bytes s
        → ◌≡◌ {A = Read TileFault (Option FieldData)} (cond b (cond (may_follow s f.number) (Ok (Some f)) (Err faults.Value)) (Err faults.Kind)) (Err d)
        → ValueHas bytes d
    go false k s seen h = value_kind (sym (same_fault {A = Option FieldData} faults.Kind d h)) f here known k
    go true k None seen h = absurd cc
    go true k (Some g) seen h = two (eqb g.number f.number) refl h
      where
        two : (c : Bool) → eqb g.number f.number ≡ c → ◌≡◌ {A = Read TileFault (Option FieldData)} (cond c (Ok (Some f)) (Err faults.Value)) (Err d)
            → ValueHas bytes d
        two true t h = absurd cc
        two false t h = two_kinds (sym (same_fault {A = Option FieldData} faults.Value d h)) g f seen.0 here seen.1 known (eqb-false g.number f.number t)

chosen_ok : (s next : Option FieldData) (f : FieldData) → chosen s f ≡ Ok next → Some f ≡ next
chosen_ok s next f e =
    let kind = pass_ok (has_kind f.number f.value) faults.Kind (cond (may_follow s f.number) (Ok (Some f)) (Err faults.Value)) next e in
    let follows = pass_ok (may_follow s f.number) faults.Value (Ok (Some f)) next kind.1 in
    same_value {Fault = TileFault} (Some f) next follows.1

value_met : (bytes : List ℕ) (d : TileFault) (items : List Item) (front : List FieldData) (s : Option FieldData) → items_of bytes ≡ fine front ++ items
    → Seen bytes s
    → folded value_after s items ≡ Err d → ValueHas bytes d
unfolding folded
value_met bytes d [] front s all seen e = absurd cc
value_met bytes d (Err w ∷ is) front s all seen e =
    value_broken (sym (same_fault {A = Option FieldData} faults.Wire d e)) (λ fs m. no_fault front fs w is (sym all ∙ message_items fs 0 bytes m))
value_met bytes d (Ok f ∷ is) front s all seen e =
    go (λ k h1 h2. value_met bytes d is (front ++ f ∷ []) k (all ∙ fine_snoc front f is) h1 h2) (is_known f.number) refl e
  where
    go : ((k : Option FieldData) → Seen bytes k → folded value_after k is ≡ Err d → ValueHas bytes d) → (b : Bool) → is_known f.number ≡ b
        → (cond b (chosen s f) (Ok s) >>= λ next. folded value_after next is) ≡ Err d → ValueHas bytes d
    go more false known h = more s seen h
    go more true known h = elim (then_err (chosen s f) (λ next. folded value_after next is) d h) [
      | inl bad ↦ chosen_err bytes s f d (stands bytes front f is all) known seen bad
      | inr x ↦ more (Some f) (stands bytes front f is all, known) (ap (λ (k : Option FieldData). folded value_after k is) (chosen_ok s x.0 f x.1) ∙ x.2)
    ]

last_some : (fs : List FieldData) (f : FieldData) → LastValue (Some f) fs None → ⊥
last_some [] f h = cc
last_some (g ∷ gs) f h = last_some gs g h.2

last_none : (fs : List FieldData) → LastValue None fs None → fs ≡ []
last_none [] h = refl
last_none (f ∷ fs) h = absurd (last_some fs f h.2)

meaning_err : (number : ℕ) (v : Value) (d : TileFault) → meaning number v ≡ Err d
    → (d ≡ faults.Utf8) × ((part : List ℕ) × (v ≡ some_bytes part) × (IsUtf8 part → ⊥))
unfolding meaning
meaning_err number (some_bytes part) d e =
    elim (then_err (text_at part) (λ t. Ok (text t)) d e) [
      | inl bad ↦ ((text_err part d bad).0, (part, refl, (text_err part d bad).1))
      | inr x ↦
          absurd (not_both (text x.0) d x.2)
    ]
meaning_err number (four_bytes part) d e = absurd cc
meaning_err number (eight_bytes part) d e = absurd cc
meaning_err number (varint_value n) d e =
    absurd (go (eqb number 4) (eqb number 5) (eqb number 6) (plain_tag n) (natural n) (zigzag_tag n) (truth (not (eqb n 0))) e)
  where
    go : (a b c : Bool) (w x y z : TagView) → ◌≡◌ {A = Read TileFault TagView} (cond a (Ok w) (cond b (Ok x) (cond c (Ok y) (Ok z)))) (Err d) → ⊥
    go true b c w x y z h = cc
    go false true c w x y z h = cc
    go false false true w x y z h = cc
    go false false false w x y z h = cc

value_has : (bytes : List ℕ) (d : TileFault) → tag_value_at bytes ≡ Err d → ValueHas bytes d
unfolding tag_value_at
value_has bytes d e = elim (then_err (last_value_in bytes) meant d e) [
  | inl bad ↦ value_met bytes d (items_of bytes) [] None refl tt bad
  | inr last ↦ (let whole = whole_of value_after (λ s w. refl) (items_of bytes) None last.0 last.1 in
      go last.0 whole.0 (fields_message bytes whole.0 whole.1) (value_says whole.0 None last.0 (ap (folded value_after None) (sym whole.1) ∙ last.1)) last.2)
]
  where
    go : (last : Option FieldData) (fields : List FieldData) → IsMessage bytes fields → LastValue None (filter (λ f. is_known f.number) fields) last
        → meant last ≡ Err d → ValueHas bytes d
    go None fields message is h =
        no_kind (sym (same_fault {A = TagView} faults.Value d h)) fields message (last_none (filter (λ f. is_known f.number) fields) is)
    go (Some f) fields message is h = let m = meaning_err f.number f.value d h in value_text m.0 fields message f is m.1.0 m.1.1 m.1.2

-- ---- lists of parts

each_err : {X : Type 0} (read : List ℕ → Read TileFault X) (parts : List (List ℕ)) (before : List X) (d : TileFault)
    → folded (part_more read) before parts ≡ Err d → (p : List ℕ) × IsAmong p parts × (read p ≡ Err d)
unfolding folded
each_err read [] before d e = absurd cc
each_err {X} read (p ∷ ps) before d e = elim (then_err (part_more read before p) (λ next. folded (part_more read) next ps) d e) [
  | inl bad ↦ elim (then_err (read p) (λ x. Ok (before ++ x ∷ [])) d bad)
      [ inl worse ↦ (p, ([], ps, refl), worse) | inr x ↦ absurd (not_both (before ++ x.0 ∷ []) d x.2) ]
  | inr x ↦ (let more = each_err read ps x.0 d x.2 in (more.0, (p ∷ more.1.0, more.1.1, ap (λ (k : List (List ℕ)). p ∷ k) more.1.2), more.2))
]

-- ---- layers

name_err : (last : Option (List ℕ)) (d : TileFault) → name_at last ≡ Err d
    → ((d ≡ faults.Name) × (last ≡ None)) ⊎ ((d ≡ faults.Utf8) × ((part : List ℕ) × (last ≡ Some part) × (IsUtf8 part → ⊥)))
name_err None d e = inl (sym (same_fault {A = List ℕ} faults.Name d e), refl)
name_err (Some part) d e = inr ((text_err part d e).0, (part, refl, (text_err part d e).1))

small_err : (otherwise : ℕ) (last : Option ℕ) (d : TileFault) → small_at otherwise last ≡ Err d
    → (d ≡ faults.Range) × ((n : ℕ) × (last ≡ Some n) × (4294967295 < n))
small_err otherwise None d e = absurd cc
small_err otherwise (Some n) d e = go (ltb 4294967295 n) refl e
  where
    go : (b : Bool) → ltb 4294967295 n ≡ b → ◌≡◌ {A = Read TileFault ℕ} (cond b (Err faults.Range) (Ok n)) (Err d)
        → (d ≡ faults.Range) × ((m : ℕ) × (◌≡◌ {A = Option ℕ} (Some n) (Some m)) × (4294967295 < m))
    go true t h = (sym (same_fault {A = ℕ} faults.Range d h), (n, refl, ltb-true 4294967295 n t))
    go false t h = absurd cc

small_ok : (otherwise : ℕ) (last : Option ℕ) (n : ℕ) → small_at otherwise last ≡ Ok n → ((last ≡ None) × (n ≡ otherwise)) ⊎ (last ≡ Some n)
small_ok otherwise None n e = inl (refl, sym (same_value {Fault = TileFault} otherwise n e))
small_ok otherwise (Some m) n e = go (ltb 4294967295 m) e
  where
    go : (b : Bool) → ◌≡◌ {A = Read TileFault ℕ} (cond b (Err faults.Range) (Ok m)) (Ok n) → ((Some m ≡ None) × (n ≡ otherwise)) ⊎ (Some m ≡ Some n)
    go true h = absurd cc
    go false h = inr (ap (λ (k : ℕ). Some k) (same_value {Fault = TileFault} m n h))

version_err : (last : Option ℕ) (d : TileFault) → version_at last ≡ Err d
    → ((d ≡ faults.Range) × ((n : ℕ) × (last ≡ Some n) × (4294967295 < n)))
    ⊎ ((d ≡ faults.Version) × ((n : ℕ) × (last ≡ Some n) × (n ≡ DEFAULT_VERSION → ⊥) × (n ≡ CURRENT_VERSION → ⊥)))
unfolding version_at
version_err last d e =
    elim (then_err (small_at DEFAULT_VERSION last) _ d e) [
      | inl bad ↦ inl (small_err DEFAULT_VERSION last d bad)
      | inr n ↦
          inr (go n.0 (eqb n.0 DEFAULT_VERSION) (eqb n.0 CURRENT_VERSION) refl refl (small_ok DEFAULT_VERSION last n.0 n.1) n.2)
    ]
  where
    go : (n : ℕ) (a b : Bool) → eqb n DEFAULT_VERSION ≡ a → eqb n CURRENT_VERSION ≡ b → ((last ≡ None) × (n ≡ DEFAULT_VERSION)) ⊎ (last ≡ Some n)
        → ◌≡◌ {A = Read TileFault ℕ} (cond (a || b) (Ok n) (Err faults.Version)) (Err d)
        → (d ≡ faults.Version) × ((m : ℕ) × (last ≡ Some m) × (m ≡ DEFAULT_VERSION → ⊥) × (m ≡ CURRENT_VERSION → ⊥))
    go n true b ea eb is h = absurd cc
    go n false true ea eb is h = absurd cc
    go n false false ea eb (inl is) h = absurd (eqb-false n DEFAULT_VERSION ea is.1)
    go n false false ea eb (inr is) h = (sym (same_fault {A = ℕ} faults.Version d h), (n, is, eqb-false n DEFAULT_VERSION ea, eqb-false n CURRENT_VERSION eb))

extent_err : (last : Option ℕ) (d : TileFault) → extent_at last ≡ Err d
    → ((d ≡ faults.Range) × ((n : ℕ) × (last ≡ Some n) × (4294967295 < n))) ⊎ ((d ≡ faults.Extent) × (last ≡ Some 0))
unfolding extent_at
extent_err last d e =
    elim (then_err (small_at DEFAULT_EXTENT last) _ d e) [
      | inl bad ↦ inl (small_err DEFAULT_EXTENT last d bad)
      | inr n ↦
          inr (go n.0 (eqb n.0 0) refl (small_ok DEFAULT_EXTENT last n.0 n.1) n.2)
    ]
  where
    go : (n : ℕ) (a : Bool) → eqb n 0 ≡ a → ((last ≡ None) × (n ≡ DEFAULT_EXTENT)) ⊎ (last ≡ Some n)
        → ◌≡◌ {A = Read TileFault ℕ} (cond a (Err faults.Extent) (Ok n)) (Err d) → (d ≡ faults.Extent) × (last ≡ Some 0)
    go n false ea is h = absurd cc
    go n true ea (inl is) h = absurd (omega (arith, eqb-true n 0 ea, is.1))
    go n true ea (inr is) h = (sym (same_fault {A = ℕ} faults.Extent d h), is ∙ ap (λ (k : ℕ). Some k) (eqb-true n 0 ea))

-- a version or an extent that 32 bits can't hold
too_large : (bytes : List ℕ) (d : TileFault) (fields : List FieldData) → IsMessage bytes fields → (number : ℕ) → (number ≡ 15) ⊎ (number ≡ 5)
    → (last : Option ℕ) → LastNumber None (values_of number fields) last
    → (d ≡ faults.Range) × ((n : ℕ) × (last ≡ Some n) × (4294967295 < n)) → LayerHas bytes d
too_large bytes d fields m number which last is (range, (n, some, large)) =
    large_number range fields m number which n (subst (LastNumber None (values_of number fields)) some is) large

layer_has : (bytes : List ℕ) (d : TileFault) → layer_at bytes ≡ Err d → LayerHas bytes d
unfolding layer_at
layer_has bytes d e =
    elim (then_err (last_bytes_in 1 bytes) _ d e) [
      | inl bad ↦ at_name (pass_has BadBytes 1 bytes_after None bytes d (bytes_bad d) bad)
      | inr raw_name ↦
          (let whole = pass_whole 1 bytes_after None raw_name.0 bytes raw_name.1 in
          let fields : List FieldData = whole.0 in
          let m = fields_message bytes whole.0 whole.1 in
          let number : (k : ℕ) (n : Option ℕ) → last_number_in k bytes ≡ Ok n → LastNumber None (values_of k whole.0) n =
          λ k n h. number_says (values_of k whole.0) None n (sym (pass_at k number_after bytes whole.0 None whole.1) ∙ h) in
          let name_is : LastBytes None (values_of 1 whole.0) raw_name.0 =
          bytes_says (values_of 1 whole.0) None raw_name.0 (sym (pass_at 1 bytes_after bytes whole.0 None whole.1) ∙ raw_name.1) in
          elim (then_err (name_at raw_name.0) _ d raw_name.2) [
            | inl bad ↦ elim (name_err raw_name.0 d bad) [
              | inl none ↦ no_name none.0 whole.0 m (subst (LastBytes None (values_of 1 whole.0)) none.1 name_is)
              | inr other ↦ name_text other.0 whole.0 m other.1.0 (subst (LastBytes None (values_of 1 whole.0)) other.1.1 name_is) other.1.2
            ]
            | inr name ↦
                elim (then_err (last_number_in 15 bytes) _ d name.2) [
                  | inl bad ↦ at_version (pass_has BadNumber 15 number_after None bytes d (number_bad d) bad)
                  | inr raw_version ↦
                      elim (then_err (version_at raw_version.0) _ d raw_version.2) [
                        | inl bad ↦ elim (version_err raw_version.0 d bad) [
                          | inl big ↦ too_large bytes d whole.0 m 15 (inl refl) raw_version.0 (number 15 raw_version.0 raw_version.1) big
                          | inr other ↦ other_version other.0 whole.0 m other.1.0 (subst (LastNumber None (values_of 15 whole.0)) other.1.1
                              (number 15 raw_version.0 raw_version.1)) other.1.2 other.1.3
                        ]
                        | inr version ↦
                            elim (then_err (last_number_in 5 bytes) _ d version.2) [
                              | inl bad ↦ at_extent (pass_has BadNumber 5 number_after None bytes d (number_bad d) bad)
                              | inr raw_extent ↦
                                  elim (then_err (extent_at raw_extent.0) _ d raw_extent.2) [
                                    | inl bad ↦ elim (extent_err raw_extent.0 d bad) [
                                      | inl big ↦ too_large bytes d whole.0 m 5 (inr refl) raw_extent.0 (number 5 raw_extent.0 raw_extent.1) big
                                      | inr none ↦ no_extent none.0 whole.0 m (subst (LastNumber None (values_of 5 whole.0)) none.1
                                          (number 5 raw_extent.0 raw_extent.1))
                                    ]
                                    | inr extent ↦
                                        elim (then_err (parts_in 3 bytes) _ d extent.2) [
                                          | inl bad ↦ at_keys (pass_has BadBytes 3 parts_after [] bytes d (parts_bad d) bad)
                                          | inr raw_keys ↦
                                              elim (then_err (each_in text_at raw_keys.0) _ d raw_keys.2) [
                                                | inl bad ↦
                                                    (let p = each_err text_at raw_keys.0 [] d bad in
                                                    key_text (text_err p.0 d p.2).0 whole.0 m raw_keys.0
                                                    (parts_of 3 bytes whole.0 raw_keys.0 whole.1 raw_keys.1) p.0 p.1 (text_err p.0 d p.2).1)
                                                | inr keys ↦
                                                    elim (then_err (parts_in 4 bytes) _ d keys.2) [
                                                      | inl bad ↦ at_values (pass_has BadBytes 4 parts_after [] bytes d (parts_bad d) bad)
                                                      | inr raw_values ↦
                                                          elim (then_err (each_in tag_value_at raw_values.0) _ d raw_values.2) [
                                                            | inl bad ↦
                                                                (let p = each_err tag_value_at raw_values.0 [] d bad in
                                                                in_value whole.0 m raw_values.0 (parts_of 4 bytes whole.0 raw_values.0 whole.1 raw_values.1)
                                                                p.0 p.1 (value_has p.0 d p.2))
                                                            | inr values ↦
                                                                elim (then_err (parts_in 2 bytes) _ d values.2) [
                                                                  | inl bad ↦ at_features (pass_has BadBytes 2 parts_after [] bytes d (parts_bad d) bad)
                                                                  | inr raw ↦
                                                                      elim (then_err (each_in (feature_at keys.0 values.0) raw.0) _ d raw.2) [
                                                                        | inl bad ↦
                                                                            (let p = each_err (feature_at keys.0 values.0) raw.0 [] d bad in
                                                                            in_feature whole.0 m raw_keys.0
                                                                            (parts_of 3 bytes whole.0 raw_keys.0 whole.1 raw_keys.1) keys.0
                                                                            (each_of text_at IsText text_says raw_keys.0 keys.0 keys.1)
                                                                            raw_values.0 (parts_of 4 bytes whole.0 raw_values.0 whole.1 raw_values.1) values.0
                                                                            (each_of tag_value_at SaysValue tag_value_says raw_values.0 values.0 values.1)
                                                                            raw.0 (parts_of 2 bytes whole.0 raw.0 whole.1 raw.1) p.0 p.1
                                                                            (feature_has keys.0 values.0 p.0 d p.2))
                                                                        | inr features ↦ absurd (not_both (layer name.0 version.0 extent.0 features.0)
                                                                            d features.2)
                                                                      ]
                                                                ]
                                                          ]
                                                    ]
                                              ]
                                        ]
                                  ]
                            ]
                      ]
                ]
          ])
    ]
  where
    layer : List ℕ → ℕ → ℕ → List FeatureView → LayerView
    layer n v e fs = record { name = n; version = v; extent = e; features = fs }

-- ---- tiles

each_snoc : {X : Type 0} (Says : List ℕ → X → Type 0) (ps : List (List ℕ)) (xs : List X) (p : List ℕ) (x : X) → Each Says ps xs → Says p x
    → Each Says (ps ++ p ∷ []) (xs ++ x ∷ [])
each_snoc Says [] [] p x h s = (s, tt)
each_snoc Says [] (y ∷ ys) p x h s = absurd h
each_snoc Says (q ∷ qs) [] p x h s = absurd h
each_snoc Says (q ∷ qs) (y ∷ ys) p x h s = (h.0, each_snoc Says qs ys p x h.1 s)

layers_err : (bytes : List ℕ) (fields : List FieldData) (d : TileFault) → IsMessage bytes fields → (parts front : List (List ℕ)) (before : List LayerView)
    → AreParts (values_of 3 fields) (front ++ parts) → Each SaysLayer front before → folded layer_more before parts ≡ Err d → TileHas bytes d
unfolding folded
layers_err bytes fields d m [] front before are so_far e = absurd cc
layers_err bytes fields d m (p ∷ ps) front before are so_far e =
    elim (then_err (layer_more before p) (λ next. folded layer_more next ps) d e) [
      | inl bad ↦ elim (then_err (layer_at p) (λ k. cond (has_name before k.name) (Err faults.LayerTwice) (Ok (before ++ k ∷ []))) d bad) [
        | inl worse ↦ in_layer fields m (front ++ p ∷ ps) are p (front, ps, refl) (layer_has p d worse)
        | inr l ↦ twice l.0 (layer_says p l.0 l.1) (has_name before l.0.name) refl l.2
      ]
      | inr x ↦ (let l = then_ok (layer_at p) (λ k. cond (has_name before k.name) (Err faults.LayerTwice) (Ok (before ++ k ∷ []))) x.0 x.1 in
          let new = guard_ok (has_name before l.0.name) faults.LayerTwice (Ok (before ++ l.0 ∷ [])) x.0 l.2 in
          let same : before ++ l.0 ∷ [] ≡ x.0 = same_value {Fault = TileFault} (before ++ l.0 ∷ []) x.0 new.1 in
          layers_err bytes fields d m ps (front ++ p ∷ []) (before ++ l.0 ∷ [])
          (are ∙ ap (λ (k : List (List ℕ)). map (λ q. some_bytes q) k) (sym (append_assoc front (p ∷ []) ps)))
          (each_snoc SaysLayer front before p l.0 so_far (layer_says p l.0 l.1)) (ap (λ (k : List LayerView). folded layer_more k ps) same ∙ x.2))
    ]
  where
    twice : (l : LayerView) → SaysLayer p l → (b : Bool) → has_name before l.name ≡ b
        → ◌≡◌ {A = Read TileFault (List LayerView)} (cond b (Err faults.LayerTwice) (Ok (before ++ l ∷ []))) (Err d) → TileHas bytes d
    twice l says true t h = layer_twice (sym (same_fault {A = List LayerView} faults.LayerTwice d h)) fields m front p ps are before so_far l says t
    twice l says false t h = absurd cc

pub tile_has : (bytes : List ℕ) (d : TileFault) → tile_at bytes ≡ Err d → TileHas bytes d
unfolding tile_at
tile_has bytes d e = elim (then_err (parts_in 3 bytes) _ d e) [
  | inl bad ↦ at_layers (pass_has BadBytes 3 parts_after [] bytes d (parts_bad d) bad)
  | inr raw ↦ (let whole = pass_whole 3 parts_after [] raw.0 bytes raw.1 in
      layers_err bytes whole.0 d (fields_message bytes whole.0 whole.1) raw.0 [] [] (parts_of 3 bytes whole.0 raw.0 whole.1 raw.1) tt raw.2)
]
