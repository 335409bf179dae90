-- The tiles of a map, one after the other.
use Rattle.std.proofs.Common.{◌≡◌, ℕ, ◌+◌, ◌*◌, ◌<◌, ◌≤◌, List, [], ◌∷◌, length, refl, sym, ap, subst, ◌∙◌}
use Rattle.std.proofs.Common.{arith, inl, inr, Bool, true, false, Option, Some, None, IfSome}
use Rattle.std.specs.Prelude.{◌⊎◌, ◌↔◌, IsTrue}
use Rattle.std.proofs.lemmas.Bool.{cases_lt, false≢true}
use Rattle.std.proofs.lemmas.Bool.Decides.{nat_tests}
use Rattle.feature_model.specs.declared.limits.TheConstants.{MAX_ZOOM}
use Rattle.hilbert_id.specs.Curve.{IsTileId}
use Rattle.hilbert_id.specs.declared.tile_at.TileAt.{TileAt}
use Rattle.hilbert_id.specs.declared.number.TheConstants.{TILE_IDS}
use Rattle.hilbert_id.proofs.Ids.{no_tile_behind, one_tile_of}
use Rattle.mvt_layer.specs.Tile.{LayerView}
use Rattle.mvt_write.specs.Written.{written}
use Rattle.feature_store.specs.Layers.{is_tile, layers}
use Rattle.feature_store.specs.Store.{FeatureMap}
use Rattle.feature_store.specs.declared.tile_parts.TileParts.{TileParts}
use Rattle.feature_store.specs.Parts.{IfHand, IsBegun, IsInHand, IsNoneInHand, NONE_IN_HAND, work_left}
use Rattle.feature_store.specs.declared.all_tiles.Begun.{Begun}
use Rattle.feature_store.specs.declared.all_tiles.Begun.TheVariants.{Hand}
use Rattle.feature_store.specs.Tiles.{ShowsNothing, IsNextTile, IsTile, HasPlace, tile_bytes}
use Rattle.feature_store.specs.Walk.{ahead_of, least_id, left_in}
use Rattle.feature_store.proofs.Below.{the_place}
use Rattle.feature_store.proofs.Laws.{layers_outside}

-- ---- a tile that is begun

module _ (m : FeatureMap) where
  -- the bytes of some layers are what is written of them
  pub some_written : (ls : List LayerView) (bytes : List ℕ) → 0 < length ls → bytes ≡ written ls → Some bytes ≡ tile_bytes ls
  some_written [] bytes some same = absurd (omega (arith, some))
  some_written (l ∷ ls) bytes some same = ap (λ (bs : List ℕ). Some bs) same

  some_bytes : (ls : List LayerView) (bytes : List ℕ) → Some bytes ≡ tile_bytes ls → (0 < length ls) × (bytes ≡ written ls)
  some_bytes [] bytes same = absurd (cc)
  some_bytes (l ∷ ls) bytes same = (omega arith, let is : bytes ≡ written (l ∷ ls) = cc in is)

  no_bytes : (ls : List LayerView) → None ≡ tile_bytes ls → ls ≡ []
  no_bytes [] same = refl
  no_bytes (l ∷ ls) same = absurd (cc)

  module _ (from : ℕ) (hand : ℕ × TileParts) (begun : IsBegun m from hand) where
    abbrev bytes_of : Option (List ℕ)
    bytes_of = tile_bytes (layers m hand.1.at.z hand.1.at.x hand.1.at.y)

    -- where it shows something it is the next tile
    pub next_tile : (bytes : List ℕ) → Some bytes ≡ bytes_of → IsNextTile m from (hand.0, bytes)
    next_tile bytes is =
        let at = hand.1.at in
        let some = some_bytes (layers m at.z at.x at.y) bytes is in
        record { here = begun.here; tile = (at.z, at.x, at.y, begun.tile.id, some.0, some.1); between = begun.between }

    -- where it doesn't, neither does any up to it
    pub none_shown : None ≡ bytes_of → ShowsNothing m from (hand.0 + 1)
    none_shown none z x y id is above under = elim (cases_lt id hand.0) [
      | inl low ↦ begun.between z x y id is above low
      | inr ge ↦
          let at = hand.1.at in
          let same : id ≡ hand.0 = omega (arith, ge, under) in
          the_place m at.z at.x at.y z x y hand.0 begun.tile.id (subst (IsTileId z x y) same is) ∙ no_bytes (layers m at.z at.x at.y) none
    ]

-- ---- how far a walk is

-- while no tile is in hand
pub from_before : (hand : Option (ℕ × TileParts)) (from : ℕ) → hand ≡ None → least_id hand from ≡ from
from_before hand from none = ap (λ (h : Option (ℕ × TileParts)). least_id h from) none

-- no tile is in hand
pub none_left : (stage : ℕ) (hand : Option (ℕ × TileParts)) → hand ≡ None → ahead_of stage (left_in hand) ≡ stage * NONE_IN_HAND
unfolding ahead_of
none_left stage hand none = rw none (omega arith)

module _ (stage : ℕ) (hand after : Option (ℕ × TileParts)) (h : ℕ × TileParts) (is : hand ≡ Some h) (none : after ≡ None) where
  -- the tile in hand is taken
  pub hand_left : ahead_of stage (left_in after) + work_left h.1 ≤ ahead_of stage (left_in hand)
  unfolding ahead_of
  hand_left = rw (is, none) (omega arith)

  pub hand_ahead : 0 < work_left h.1 → ahead_of stage (left_in after) < ahead_of stage (left_in hand)
  unfolding ahead_of
  hand_ahead some = rw (is, none) (omega (arith, some))

-- a step to the next tile is taken
module _ (old new : ℕ) (hand after : Option (ℕ × TileParts)) (is : hand ≡ None) (none : after ≡ None) (further : new < old) where
  pub step_ahead : ahead_of new (left_in after) < ahead_of old (left_in hand)
  unfolding ahead_of
  step_ahead = rw (is, none) (omega (arith, further))

  pub step_left : (left : ℕ) → left < NONE_IN_HAND → ahead_of new (left_in after) + left ≤ ahead_of old (left_in hand)
  unfolding ahead_of
  step_left left few = rw (is, none) (omega (arith, further, few))

-- a part more of the tile in hand
pub ahead_part : (stage left new start : ℕ) (hand : Option (ℕ × TileParts)) → ahead_of stage (left_in hand) + left ≤ start → new < left
    → ahead_of stage new < start
unfolding ahead_of
ahead_part stage left new start hand le fewer = omega (arith, fewer, le)

-- what is told of a tile
pub of_hand : (P : ℕ × TileParts → Type 0) (b : Begun) (h : ℕ × TileParts) → b ≡ Hand h → IfHand P b → P h
of_hand P b h is told = subst (λ (c : Begun). IfHand P c) is told

-- some of a tile that isn't whole is left
pub some_left : (left : ℕ) (whole : Bool) → IsTrue whole ↔ (left ≡ 0) → whole ≡ false → 0 < left
some_left left whole is not = by (cases_lt 0 left)
  where
    by : (0 < left) ⊎ (left ≤ 0) → 0 < left
    by (inl some) = some
    by (inr none) = absurd (false≢true (sym not ∙ is.1 (omega (arith, none))))

-- where no tile is in hand, the least id of the next tile is that of those that aren't begun
pub none_in_hand : (m : FeatureMap) (hand : Option (ℕ × TileParts)) (from id stage : ℕ)
    → IfSome hand (λ h. (from ≡ h.0 + 1) × (0 < work_left h.1) × IsInHand m h) → least_id hand from ≡ id → IsNoneInHand (ahead_of stage (left_in hand))
    → from ≡ id
unfolding ahead_of
none_in_hand m None from id stage is least none = least
none_in_hand m (Some h) from id stage is least none = let few = is.2.few in absurd (omega (arith, is.1, few, none.1))

-- ---- the place of an id

-- an id of a zoom of the map is one of a tile, and the tile is of that zoom
pub place_within : (id : ℕ) → HasPlace id → id < TILE_IDS
place_within id place = elim (cases_lt id TILE_IDS) [
  | inl lt ↦ lt
  | inr ge ↦ let zoom = place.3 in absurd (no_tile_behind place.0 place.1 place.2 id (omega (arith, zoom)) place.4 ge)
]

pub zoom_within : (z x y id : ℕ) → HasPlace id → IsTileId z x y id → z ≤ MAX_ZOOM
zoom_within z x y id place is =
    let one = one_tile_of z x y place.0 place.1 place.2 id is place.4 in
    let zoom = place.3 in
    omega (arith, zoom, one.0)

-- ---- the tile of an id

-- the tile that is found has the id
pub tile_found : (found : Option TileAt) (at : TileAt) (id : ℕ) → found ≡ Some at → IfSome found (λ t. IsTileId t.z t.x t.y id) → IsTileId at.z at.x at.y id
tile_found found at id is has = subst (λ o. IfSome o (λ t. IsTileId t.z t.x t.y id)) is has

-- ---- a tile once more

-- a tile that shows something is of a zoom that a map has
shown_zoom : (m : FeatureMap) (z x y : ℕ) → 0 < length (layers m z x y) → z ≤ MAX_ZOOM
shown_zoom m z x y some = by (is_tile z x y) refl
  where
    within : is_tile z x y ≡ true → z ≤ MAX_ZOOM
    within is = grind (arith, nat_tests)

    by : (b : Bool) → is_tile z x y ≡ b → z ≤ MAX_ZOOM
    by true is = within is
    by false is = absurd (omega (arith, some, ap (λ (ls : List LayerView). length ls) (layers_outside m z x y is)))

module _ (m : FeatureMap) (id : ℕ) (shown : (bytes : List ℕ) × IsTile m (id, bytes)) where
  pub has_place : HasPlace id
  has_place = (shown.1.0, shown.1.1, shown.1.2, shown_zoom m shown.1.0 shown.1.1 shown.1.2 shown.1.4, shown.1.3)

  -- it shows the same wherever its id is found
  pub shows_there : (z x y : ℕ) → IsTileId z x y id → 0 < length (layers m z x y)
  shows_there z x y is =
      let same = the_place m z x y shown.1.0 shown.1.1 shown.1.2 id is shown.1.3 in
      omega (arith, shown.1.4, ap (λ (ls : List LayerView). length ls) same)

  pub not_nothing : (z x y : ℕ) (bytes : Option (List ℕ)) → IsTileId z x y id → bytes ≡ tile_bytes (layers m z x y) → bytes ≡ None → ⊥
  not_nothing z x y bytes is same none =
      omega (arith, shows_there z x y is, ap (λ (ls : List LayerView). length ls) (no_bytes m (layers m z x y) (sym none ∙ same)))

  pub is_again : (z x y : ℕ) (bytes : List ℕ) → IsTileId z x y id → Some bytes ≡ tile_bytes (layers m z x y) → IsTile m (id, bytes)
  is_again z x y bytes is same = let some = some_bytes m (layers m z x y) bytes same in (z, x, y, is, some.0, some.1)
