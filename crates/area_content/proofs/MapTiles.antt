-- From the tiles of a map to those of its archive.
use Rattle.std.proofs.Common.{◌≡◌, ◌≢◌, inl, inr, ℕ, zero, suc, ◌+◌, ◌^◌, ◌<◌, ◌≤◌, Bool, true, false, eqb, if◌then◌else◌, List, [], ◌∷◌, ◌++◌, length}
use Rattle.std.proofs.Common.{Option, Some, None, refl, sym, ap, subst, ◌∙◌, arith}
use Rattle.std.specs.List.{Contains}
use Rattle.std.specs.Map.{keys_of}
use Rattle.std.proofs.lemmas.Bool.{cases_lt, eqb-true, eqb-false}
use Rattle.std.proofs.lemmas.Bool.Decides.{nat_tests}
use Rattle.std.proofs.lemmas.List.{length-map, nil_from_length}
use Rattle.std.proofs.lemmas.Map.Views.{length-le_from_below}
use Rattle.std.proofs.lemmas.Option.{slice_get_within}
use Rattle.std.proofs.lemmas.List.Elements.{All-nil, All-cons, All-head, All-append, All-map, All-weaker, All-contains, Contains-append_right, Contains-get_or}
use Rattle.feature_model.specs.declared.limits.TheConstants.{MAX_ZOOM}
use Rattle.feature_store.specs.Layers.{is_tile, layers}
use Rattle.feature_store.specs.Store.{FeatureMap, IsMap}
use Rattle.feature_store.specs.Tiles.{IsTile, AreTiles, AreTilesBelow, IsNextTile, ShowsNothing}
use Rattle.feature_store.proofs.Below.{none_below, one_more}
use Rattle.feature_store.proofs.Laws.{layers_outside, written_layers_read}
use Rattle.hilbert_id.specs.Curve.{IsTileId, first_id}
use Rattle.hilbert_id.specs.declared.number.TheConstants.{TILE_IDS}
use Rattle.hilbert_id.proofs.Ids.{no_tile_behind, one_tile_of}
use Rattle.hilbert_id.proofs.Laws.{curve_reaches}
use Rattle.mvt_layer.specs.Reads.{ReadsAs}
use Rattle.mvt_layer.specs.Tile.{LayerView}
use Rattle.mvt_write.specs.Written.{written}
use Rattle.pb_wire.specs.Varint.{varint, shortest_in}
use Rattle.pm_build.specs.Built.{tile_content}
use Rattle.pm_build.specs.Building.{CanAdd, AreFew}
use Rattle.pm_build.specs.Laid.{AreLaidOut}
use Rattle.pm_build.specs.Tiles.{Tile}
use Rattle.pm_build.specs.Vector.{IsVectorArchive}
use Rattle.area_content.specs.Faults.{IsShort, AreAdded}
use Rattle.area_content.proofs.Bounds.{no_runs}
use Rattle.feature_store.specs.Content.{IsTileContent}
use Rattle.area_content.specs.Tiles.{AreTilesOf, HasNoTile, IsArchiveOfMap, IsArchiveOfTiles}

-- ---- ids and contents as an archive requires them

some_written : (ls : List LayerView) → 0 < length ls → 0 < length (written ls)
unfolding written varint shortest_in
some_written [] some = absurd (omega (arith, some))
some_written (l ∷ ls) some = omega arith

zoom_within : (z x y : ℕ) → is_tile z x y ≡ true → z ≤ MAX_ZOOM
zoom_within z x y is = grind (arith, nat_tests)

column_within : (z x y : ℕ) → is_tile z x y ≡ true → x < 2 ^ z
column_within z x y is = grind (arith, nat_tests)

row_within : (z x y : ℕ) → is_tile z x y ≡ true → y < 2 ^ z
row_within z x y is = grind (arith, nat_tests)

-- ---- contents by their ids

content_in : (ts : List Tile) (id : ℕ) (bytes : List ℕ) → tile_content ts id ≡ Some bytes → Contains ts (id, bytes)
content_in [] id bytes is = absurd (cc)
content_in (t ∷ ts) id bytes is = by (eqb t.0 id) refl is (content_in ts id bytes)
  where
    by : (b : Bool) → eqb t.0 id ≡ b → (if b then Some t.1 else tile_content ts id) ≡ Some bytes
        → (tile_content ts id ≡ Some bytes → Contains ts (id, bytes)) → Contains (t ∷ ts) (id, bytes)
    by true here found behind =
        let at : t.0 ≡ id = eqb-true t.0 id here in
        let content : t.1 ≡ bytes = cc in
        let whole : t ≡ (id, bytes) = ap (λ (k : ℕ). let u : Tile = (k, t.1) in u) at ∙ ap (λ (b : List ℕ). let u : Tile = (id, b) in u) content in
        subst (Contains (t ∷ ts)) whole (Contains-get_or (t ∷ ts) 0 t (omega arith))
    by false other found behind = Contains-append_right (t ∷ []) ts (id, bytes) (behind found)

content_there : (ts : List Tile) (id : ℕ) → Contains (keys_of ts) id → tile_content ts id ≡ None → ⊥
content_there [] id there is = absurd (omega (arith, there.1))
content_there (t ∷ ts) id there is = by (eqb t.0 id) refl there is (content_there ts id)
  where
    by : (b : Bool) → eqb t.0 id ≡ b → Contains (t.0 ∷ keys_of ts) id → (if b then Some t.1 else tile_content ts id) ≡ None
        → (Contains (keys_of ts) id → tile_content ts id ≡ None → ⊥) → ⊥
    by true here listed found behind = cc
    by false other (zero, within, same) found behind = absurd (eqb-false t.0 id other same)
    by false other (suc k, within, same) found behind = behind (k, omega (arith, within), same) found

-- an archive that is laid out has a first tile
laid_some : (ts : List Tile) (metadata bytes : List ℕ) → AreLaidOut bytes ts metadata → ts ≢ []
laid_some ts metadata bytes laid none =
    let first : 0 < length ts = slice_get_within ts 0 laid.zooms.0 laid.zooms.2 in
    absurd (omega (arith, first, ap (λ (us : List Tile). length us) none))

module _ (m : FeatureMap) where
  -- a tile that shows something is one of the world
  shows_inside : (z x y : ℕ) → 0 < length (layers m z x y) → is_tile z x y ≡ true
  shows_inside z x y some = by (is_tile z x y) refl
    where
      by : (b : Bool) → is_tile z x y ≡ b → is_tile z x y ≡ true
      by true is = is
      by false is = absurd (omega (arith, some, ap (λ (ls : List LayerView). length ls) (layers_outside m z x y is)))

  id_below : (t : Tile) → IsTile m t → t.0 < TILE_IDS
  id_below t (z, x, y, place, some, is) =
      elim (cases_lt t.0 TILE_IDS) [
        | inl lt ↦ lt
        | inr le ↦ absurd (no_tile_behind z x y t.0 (omega (arith, zoom_within z x y (shows_inside z x y some))) place le)
      ]

  some_bytes : (t : Tile) → IsTile m t → 0 < length t.1
  some_bytes t (z, x, y, place, some, is) = omega (arith, some_written (layers m z x y) some, ap (λ (bytes : List ℕ). length bytes) is)

  -- the next tile of a map can be added to an archive of those before it, if its content is short enough
  pub can_be_added : (from : ℕ) (ts : List Tile) (t : Tile) → AreTilesBelow m from ts → IsNextTile m from t → IsShort t → CanAdd ts t
  can_be_added from ts t below next short =
      let here = next.here in (
        All-weaker (λ (u : Tile). (u.0 < from) × IsTile m u) (λ u. u.0 < t.0) (λ u h. let lt = h.0 in omega (arith, lt, here)) ts below.each,
        (id_below t next.tile, some_bytes t next.tile, short),
      )

  -- tiles of one id have the same layers
  the_place : (z x y w a b id : ℕ) → IsTileId z x y id → IsTileId w a b id → layers m w a b ≡ layers m z x y
  the_place z x y w a b id is other =
      let one = one_tile_of w a b z x y id other is in
      ap (λ k. layers m k a b) one.0 ∙ ap (λ k. layers m z k b) one.1 ∙ ap (λ k. layers m z x k) one.2

  -- a tile has one content
  pub one_content : (id : ℕ) (a b : List ℕ) → IsTile m (id, a) → IsTile m (id, b) → a ≡ b
  one_content id a b (z, x, y, place, some, is) (w, c, d, other, more, same) =
      is ∙ ap written (the_place w c d z x y id other place) ∙ sym same

  -- no tile is added at first
  pub none_added : AreAdded m 0 []
  none_added = record { below = none_below m; short = All-nil IsShort; few = ([], no_runs, omega arith) }

  -- the next tile is added
  pub next_added : (from : ℕ) (ts : List Tile) (t : Tile) → AreAdded m from ts → IsNextTile m from t → IsShort t → AreFew (ts ++ t ∷ [])
      → AreAdded m (t.0 + 1) (ts ++ t ∷ [])
  next_added from ts t added next short few = record {
    below = one_more m from ts t added.below next;
    short = All-append IsShort ts (t ∷ []) added.short (All-cons IsShort t [] short (All-nil IsShort));
    few = few;
  }

  -- ids whose tiles show nothing are passed
  pub passed_added : (from new : ℕ) (ts : List Tile) → AreAdded m from ts → from ≤ new → ShowsNothing m from new → AreAdded m new ts
  passed_added from new ts added le nothing = record {
    below = record {
      ascending = added.below.ascending;
      each = All-weaker (λ (u : Tile). (u.0 < from) × IsTile m u) (λ (u : Tile). (u.0 < new) × IsTile m u)
          (λ u h. (let lt = h.0 in omega (arith, lt, le), h.1)) ts added.below.each;
      every = λ z x y id is lt some. elim (cases_lt id from) [
        | inl low ↦ added.below.every z x y id is low some
        | inr ge ↦ absurd (omega (arith, some, ap (λ (ls : List LayerView). length ls) (nothing z x y id is ge lt)))
      ];
    };
    short = added.short;
    few = added.few;
  }

  -- there are no more tiles than ids
  pub few_tiles : (from : ℕ) (ts : List Tile) → AreAdded m from ts → length ts ≤ TILE_IDS
  few_tiles from ts added =
      let ids = All-map (λ (id : ℕ). id < TILE_IDS) (λ (u : Tile). u.0) ts
      (All-weaker (λ (u : Tile). (u.0 < from) × IsTile m u) (λ (u : Tile). u.0 < TILE_IDS) (λ u h. id_below u h.1) ts added.below.each) in
      omega (arith, length-le_from_below TILE_IDS (keys_of ts) added.below.ascending ids, length-map ts (λ (u : Tile). u.0))

  -- ---- the contents are the tiles of the map

  -- the content of a tile's id reads as its layers
  reads_there : IsMap m → (z x y id : ℕ) (bytes : List ℕ) → IsTileId z x y id → IsTile m (id, bytes)
      → (0 < length (layers m z x y)) × ReadsAs bytes (layers m z x y)
  reads_there is_map z x y id bytes place (w, a, b, other, some, is) =
      let same = the_place z x y w a b id place other in
      let written_is : bytes ≡ written (layers m z x y) = is ∙ ap written same in (
        subst (λ (ls : List LayerView). 0 < length ls) same some,
        subst (λ (text : List ℕ). ReadsAs text (layers m z x y)) (sym written_is) (written_layers_read m z x y is_map),
      )

  -- and without one there are none
  read_there : IsMap m → (ts : List Tile) → AreTiles m ts → (z x y id : ℕ) → IsTileId z x y id → IsTileContent (layers m z x y) (tile_content ts id)
  read_there is_map ts are z x y id place = by (tile_content ts id) refl
    where
      by : (o : Option (List ℕ)) → tile_content ts id ≡ o → IsTileContent (layers m z x y) o
      by (Some bytes) is =
          reads_there is_map z x y id bytes place (All-contains (IsTile m) ts (id, bytes) are.each (content_in ts id bytes is))
      by None is =
          elim (cases_lt 0 (length (layers m z x y))) [
            | inl some ↦ absurd (content_there ts id (are.every z x y id place some) is)
            | inr none ↦ nil_from_length (layers m z x y) (omega arith)
          ]

  content_of_tile : (ts : List Tile) → AreTiles m ts → (id : ℕ) (bytes : List ℕ) → tile_content ts id ≡ Some bytes
      → (z : ℕ) × (x : ℕ) × (y : ℕ) × IsTileId z x y id
  content_of_tile ts are id bytes is =
      let tile = All-contains (IsTile m) ts (id, bytes) are.each (content_in ts id bytes is) in
      (tile.0, tile.1, tile.2, tile.3)

  tiles_of_map : IsMap m → (ts : List Tile) → AreTiles m ts → AreTilesOf m (tile_content ts)
  tiles_of_map is_map ts are = record { each = read_there is_map ts are; only = content_of_tile ts are }

  -- ---- maps without tiles

  shows_none : AreTiles m [] → (z x y : ℕ) → 0 < length (layers m z x y) → ⊥
  shows_none are z x y some =
      let is = shows_inside z x y some in
      let there = curve_reaches z x y (column_within z x y is) (row_within z x y is) in
      let listed = are.every z x y (first_id z + there.0) (there.0, there.2, refl) some in
      absurd (omega (arith, listed.1))

  no_tile : AreTiles m [] → HasNoTile m
  no_tile are z x y =
      elim (cases_lt 0 (length (layers m z x y))) [
        | inl some ↦ absurd (shows_none are z x y some)
        | inr none ↦ nil_from_length (layers m z x y) (omega arith)
      ]

  a_tile : (t : Tile) (ts : List Tile) → AreTiles m (t ∷ ts) → HasNoTile m → ⊥
  a_tile t ts are none =
      let tile = All-head (IsTile m) t ts are.each in
      absurd (omega (arith, tile.4, ap (λ (ls : List LayerView). length ls) (none tile.0 tile.1 tile.2)))

  -- no bytes are the archive of no tiles
  none_is_archive : (ts : List Tile) (metadata bytes : List ℕ) → ts ≡ [] → bytes ≡ [] → AreTiles m ts → IsArchiveOfMap m metadata bytes
  none_is_archive ts metadata bytes none empty are = inl (no_tile (subst (AreTiles m) none are), empty)

  -- an archive of tiles is one of their map
  some_are_archive : (ts : List Tile) (metadata bytes : List ℕ) → ts ≢ [] → IsMap m → AreTiles m ts
      → IsVectorArchive bytes metadata (tile_content ts) → IsArchiveOfMap m metadata bytes
  some_are_archive [] metadata bytes some is_map are archive = absurd (some refl)
  some_are_archive (t ∷ ts) metadata bytes some is_map are archive =
      inr (a_tile t ts are, (tile_content (t ∷ ts), tiles_of_map is_map (t ∷ ts) are, archive))

  -- an archive of all tiles of a map is one of the map
  pub all_are_archive : (ts : List Tile) (metadata bytes : List ℕ) → IsMap m → AreTiles m ts → IsArchiveOfTiles ts metadata bytes
      → IsArchiveOfMap m metadata bytes
  all_are_archive ts metadata bytes is_map are (inl (none, empty)) = none_is_archive ts metadata bytes none empty are
  all_are_archive ts metadata bytes is_map are (inr (laid, archive)) =
      some_are_archive ts metadata bytes (laid_some ts metadata bytes laid) is_map are archive
