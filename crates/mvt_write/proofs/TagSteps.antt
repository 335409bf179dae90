-- Tags, one after the other.
use Rattle.std.proofs.Common.{Bor, ◌≡◌, ℕ, true, List, [], ◌∷◌, ◌++◌, refl, sym, ap, ap₂, subst, ◌∙◌, append_assoc, append-nil}
use Rattle.std.specs.List.{flat_map}
use Rattle.std.proofs.lemmas.Grind.{flat_map-append}
use Rattle.pb_wire.specs.Varint.{varint}
use Rattle.mvt_layer.specs.declared.tile.TagValue.{TagValue}
use Rattle.mvt_layer.specs.Tile.{Tagged, tag_view}
use Rattle.mvt_write.specs.Pools.{index_of, has_entry, with_entry}
use Rattle.mvt_write.specs.Written.{value_written, tag_indices}
use Rattle.mvt_write.proofs.Pooled.{has-with_entry, grows, index_of-append}

-- a tag of the list, as the items of a loop are
abbrev pub the_tag : Bor (List ℕ) × TagValue → Tagged
the_tag t = (t.0.now, tag_view t.1)

-- the pool once an entry was added, with later entries, is the pool before with some
pub later : (pool after : List (List ℕ)) (entry : List ℕ) (rest : List (List ℕ)) → after ≡ with_entry pool entry
    → (more : List (List ℕ)) × (after ++ rest ≡ pool ++ more)
later pool after entry rest step =
    let more = grows pool entry in
    (more.0 ++ rest, ap (λ (p : List (List ℕ)). p ++ rest) (step ∙ more.1) ∙ append_assoc pool more.0 rest)

-- an entry that was added keeps its index
kept : (pool after : List (List ℕ)) (entry : List ℕ) (rest : List (List ℕ)) → after ≡ with_entry pool entry
    → index_of (after ++ rest) entry ≡ index_of after entry
kept pool after entry rest step =
    index_of-append after rest entry (subst (λ (p : List (List ℕ)). has_entry p entry ≡ true) (sym step) (has-with_entry pool entry))

-- the indices of one tag more
pub indices_more : (keys keys_after values values_after : List (List ℕ)) (tags more : List Tagged) (t : Tagged) (bytes after : List ℕ)
    → ((ks vs : List (List ℕ)) → bytes ≡ flat_map varint (tag_indices (keys ++ ks) (values ++ vs) tags)) → keys_after ≡ with_entry keys t.0
    → values_after ≡ with_entry values (value_written t.1)
    → after ≡ bytes ++ (varint (index_of keys_after t.0) ++ varint (index_of values_after (value_written t.1))) → more ≡ tags ++ t ∷ []
    → (ks vs : List (List ℕ)) → after ≡ flat_map varint (tag_indices (keys_after ++ ks) (values_after ++ vs) more)
indices_more keys keys_after values values_after tags more t bytes after before key_step value_step written is ks vs =
    let k = later keys keys_after t.0 ks key_step in
    let v = later values values_after (value_written t.1) vs value_step in
    let all_keys = keys_after ++ ks in
    let all_values = values_after ++ vs in
    let front : bytes ≡ flat_map varint (tag_indices all_keys all_values tags) = before k.0 v.0 ∙ rw (← k.1, ← v.1) refl in
    let last : flat_map varint (tag_indices all_keys all_values (t ∷ [])) ≡ varint (index_of keys_after t.0)
    ++ varint (index_of values_after (value_written t.1)) =
    rw (kept keys keys_after t.0 ks key_step, kept values values_after (value_written t.1) vs value_step)
    (ap (λ (b : List ℕ). varint (index_of keys_after t.0) ++ b) (append-nil (varint (index_of values_after (value_written t.1))))) in
    let whole : flat_map varint (tag_indices all_keys all_values more) ≡ flat_map varint (tag_indices all_keys all_values tags)
    ++ flat_map varint (tag_indices all_keys all_values (t ∷ [])) = ap (λ (ts : List Tagged). flat_map varint (tag_indices all_keys all_values ts)) is
    ∙ ap (λ (ns : List ℕ). flat_map varint ns) (flat_map-append (λ u. index_of all_keys u.0 ∷ index_of all_values (value_written u.1) ∷ []) tags (t ∷ []))
    ∙ flat_map-append varint (tag_indices all_keys all_values tags) (tag_indices all_keys all_values (t ∷ [])) in
    written ∙ ap₂ (λ (a b : List ℕ). a ++ b) front (sym last) ∙ sym whole
