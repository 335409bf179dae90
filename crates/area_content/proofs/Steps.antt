-- One tile more of an archive in the making.
use Rattle.std.proofs.Common.{◌≡◌, ℕ, ◌+◌, ◌*◌, ◌<◌, ◌≤◌, List, [], ◌∷◌, ◌++◌, length, take, All, Option, Some, None, IfSome, Result, Ok, Err, OnOk}
use Rattle.std.proofs.Common.{refl, sym, ap, subst, ◌∙◌, arith}
use Rattle.std.proofs.Math.Nat.{div-mul-le_self}
use Rattle.std.proofs.lemmas.List.Elements.{All-weaker}
use Rattle.feature_store.specs.Store.{FeatureMap}
use Rattle.feature_store.specs.Tiles.{AreTiles, IsNextTile, IsTile, ShowsNothing, ShowsNothingFrom}
use Rattle.feature_store.proofs.Below.{none_left}
use Rattle.pm_build.specs.Building.{AreFew, CanAdd}
use Rattle.pm_build.specs.Tiles.{Tile}
use Rattle.pm_build.specs.declared.ahead.TheConstants.{AHEAD_BYTES}
use Rattle.area_content.specs.declared.collected.Collected.{Collected}
use Rattle.area_content.specs.declared.collected.Waiting.{Waiting}
use Rattle.area_content.specs.Collected.{AreCollected, AreGoing, AreMade, tiles_of}
use Rattle.area_content.specs.Faults.{AreAdded, IsShort}
use Rattle.area_content.specs.Room.{AreBeyond, AreBeyondIf, AreWithin, added_so_far}
use Rattle.area_content.specs.Waiting.{IsLastMade, IsWaiting, bytes_put, least_id, parts_of}
use Rattle.area_content.proofs.MapTiles.{can_be_added, next_added, passed_added}
use Rattle.area_content.proofs.Written.{beyond_more}

module _ (m : FeatureMap) (metadata : List ℕ) (area from : ℕ) (c : Collected) (are : AreCollected m metadata area from c) where
  -- those that are kept, while none is counted
  pub kept_added : c.counted ≡ None → AreAdded m from c.kept.tiles
  kept_added none = subst (λ (o : Option (List Tile)). AreAdded m from (added_so_far c.kept.tiles o)) none are.added

  -- those that are counted
  pub counted_added : (ts : List Tile) → c.counted ≡ Some ts → AreAdded m from ts
  counted_added ts is = subst (λ (o : Option (List Tile)). AreAdded m from (added_so_far c.kept.tiles o)) is are.added

  pub counted_beyond : (ts : List Tile) → c.counted ≡ Some ts → AreBeyond m metadata area ts
  counted_beyond ts is = subst (λ (o : Option (List Tile)). AreBeyondIf m metadata area o) is are.beyond

  -- ids whose tiles show nothing are passed
  pub passed : (new : ℕ) → from ≤ new → ShowsNothing m from new → AreCollected m metadata area new c
  passed new le nothing = record {
    added = passed_added m from new (tiles_of c) are.added le nothing;
    within = are.within;
    beyond = are.beyond;
  }

  -- once no tile is left, all are added
  pub all_made : ShowsNothingFrom m from → AreMade m metadata area c
  all_made none = record {
    all = none_left m from (tiles_of c) are.added.below none;
    short = are.added.short;
    beyond = are.beyond;
  }

  -- they go on while none waits and nothing is put ahead
  pub none_waits : c.waiting ≡ None → c.kept.ahead ≡ [] → AreGoing m metadata area from c
  none_waits none ahead = record {
    collected = subst (λ (o : Option Waiting). AreCollected m metadata area (least_id o from) c) (sym none) are;
    waiting = subst (λ (o : Option Waiting). IfSome o (IsWaiting m from c.counted)) (sym none) tt;
    ahead = ahead ∙ ap bytes_put (sym none);
  }

-- the same tiles, if others are not added
pub same_collected : (m : FeatureMap) (metadata : List ℕ) (area from : ℕ) (c d : Collected) → d.kept.tiles ≡ c.kept.tiles → d.counted ≡ c.counted
    → AreCollected m metadata area from c → AreCollected m metadata area from d
same_collected m metadata area from c d kept counted are = record {
  added = subst (λ (ts : List Tile). AreAdded m from ts)
      (sym (ap (λ (ts : List Tile). added_so_far ts d.counted) kept ∙ ap (λ (o : Option (List Tile)). added_so_far c.kept.tiles o) counted)) are.added;
  within = subst (λ (ts : List Tile). AreWithin m metadata area ts) (sym kept) are.within;
  beyond = subst (λ (o : Option (List Tile)). AreBeyondIf m metadata area o) (sym counted) are.beyond;
}

-- the next tile is the last one before the ids that are left
pub last_made : (m : FeatureMap) (from new_from : ℕ) (t : Tile) → IsNextTile m from t → IsShort t → new_from ≡ t.0 + 1 → IsLastMade m new_from t
last_made m from new_from t next short last = record { of_map = next.tile; short = short; last = last }

-- and the next one after those below its own id
pub next_of_last : (m : FeatureMap) (from : ℕ) (t : Tile) → IsLastMade m from t → IsNextTile m t.0 t
next_of_last m from t last = record {
  here = omega arith;
  tile = last.of_map;
  between = λ z x y id place ge lt. absurd (omega (arith, ge, lt));
}

-- those before a tile go on while it waits
pub one_waits : (m : FeatureMap) (metadata : List ℕ) (area from : ℕ) (c : Collected) (w : Waiting) → c.waiting ≡ Some w
    → AreCollected m metadata area w.tile.0 c → IsWaiting m from c.counted w → c.kept.ahead ≡ take w.put w.tile.1.items → AreGoing m metadata area from c
one_waits m metadata area from c w is are waits ahead = record {
  collected = subst (λ (o : Option Waiting). AreCollected m metadata area (least_id o from) c) (sym is) are;
  waiting = subst (λ (o : Option Waiting). IfSome o (IsWaiting m from c.counted)) (sym is) waits;
  ahead = ahead ∙ ap bytes_put (sym is);
}

-- no more whole parts than there are bytes, and none of a tile that is counted
parts_low : (counted : Option (List Tile)) (size : ℕ) → parts_of counted size * AHEAD_BYTES ≤ size
parts_low None size = div-mul-le_self size AHEAD_BYTES
parts_low (Some ts) size = omega arith

none_counted : (counted : Option (List Tile)) (size put parts : ℕ) → put ≡ 0 → parts ≡ parts_of counted size
    → IfSome counted (λ ts. (put ≡ 0) × (parts ≡ 0))
none_counted None size put parts none is = tt
none_counted (Some ts) size put parts none is = (none, is)

-- a tile begins to wait
pub begins_to_wait : (m : FeatureMap) (from : ℕ) (counted : Option (List Tile)) (w : Waiting) → IsLastMade m from (w.tile.0, w.tile.1.items) → w.put ≡ 0
    → w.parts ≡ parts_of counted (length w.tile.1.items) → IsWaiting m from counted w
begins_to_wait m from counted w last none parts = record {
  last = last;
  inside = omega (arith, none, ap (λ (n : ℕ). n * AHEAD_BYTES) parts, parts_low counted (length w.tile.1.items));
  none = none_counted counted (length w.tile.1.items) w.put w.parts none parts;
}

-- all tiles, if they are counted
pub counted_made : (m : FeatureMap) (metadata : List ℕ) (area : ℕ) (c : Collected) → AreMade m metadata area c → (ts : List Tile) → c.counted ≡ Some ts
    → AreTiles m ts × All IsShort ts × AreBeyond m metadata area ts
counted_made m metadata area c made ts is = (
  subst (λ (o : Option (List Tile)). AreTiles m (added_so_far c.kept.tiles o)) is made.all,
  subst (λ (o : Option (List Tile)). All IsShort (added_so_far c.kept.tiles o)) is made.short,
  subst (λ (o : Option (List Tile)). AreBeyondIf m metadata area o) is made.beyond,
)

-- an option that is no tile is none
none_is : (o : Option Waiting) → ((w : Waiting) → o ≡ Some w → ⊥) → o ≡ None
none_is None not = refl
none_is (Some w) not = absurd (not w refl)

module _ (m : FeatureMap) (metadata : List ℕ) (area from : ℕ) (c : Collected) (going : AreGoing m metadata area from c) where
  -- if none waited, nothing was put ahead
  pub none_put : (taken : Option Waiting) → taken ≡ c.waiting → ((w : Waiting) → taken ≡ Some w → ⊥) → c.kept.ahead ≡ []
  none_put taken is not = going.ahead ∙ ap bytes_put (sym is ∙ none_is taken not)

  -- if none waited, those below `from` are added, whatever waits now
  pub none_waited : (taken now : Option Waiting) → taken ≡ c.waiting → ((w : Waiting) → taken ≡ Some w → ⊥)
      → AreCollected m metadata area from (record { kept = c.kept; counted = c.counted; waiting = now; alloc = c.alloc })
  none_waited taken now is not =
      let are = subst (λ (o : Option Waiting). AreCollected m metadata area (least_id o from) c) (sym is ∙ none_is taken not) going.collected in
      record { added = are.added; within = are.within; beyond = are.beyond }

-- tiles that were added are of the map
pub added_of_map : (m : FeatureMap) (from : ℕ) (ts : List Tile) → AreAdded m from ts → All (IsTile m) ts
added_of_map m from ts added =
    All-weaker (λ (t : Tile). (t.0 < from) × IsTile m t) (IsTile m) (λ t both. both.1) ts added.below.each

-- the next one can be
pub can_add : (m : FeatureMap) (from : ℕ) (ts : List Tile) (t : Tile) → AreAdded m from ts → IsNextTile m from t → IsShort t → CanAdd ts t
can_add m from ts t added next short = can_be_added m from ts t added.below next short

-- and they are added with it
pub going_on : (m : FeatureMap) (metadata : List ℕ) (area from new_from : ℕ) (ts : List Tile) (t : Tile) (new : Collected) → AreAdded m from ts
    → IsNextTile m from t → IsShort t → new_from ≡ t.0 + 1 → tiles_of new ≡ ts ++ t ∷ [] → AreFew (tiles_of new) → AreWithin m metadata area new.kept.tiles
    → AreBeyondIf m metadata area new.counted → AreCollected m metadata area new_from new
going_on m metadata area from new_from ts t new added next short at grown few within beyond =
    let more = next_added m from ts t added next short (subst AreFew grown few) in
    record {
      added = subst (λ (n : ℕ). AreAdded m n (tiles_of new)) (sym at) (subst (λ (us : List Tile). AreAdded m (t.0 + 1) us) (sym grown) more);
      within = within;
      beyond = beyond;
    }

-- counted tiles are still beyond the area
pub still_beyond : (m : FeatureMap) (metadata : List ℕ) (area : ℕ) (ts new : List Tile) (t : Tile) → AreBeyond m metadata area ts → new ≡ ts ++ t ∷ []
    → AreBeyond m metadata area new
still_beyond m metadata area ts new t beyond grown = subst (AreBeyond m metadata area) (sym grown) (beyond_more m metadata area ts t beyond)

-- what two clauses say of a call that returns `Ok`
pub both_ok : {T E : Type 0} (P Q : Type 0) (r : Result T E) → OnOk r P → OnOk r Q → OnOk r (P × Q)
both_ok P Q (Ok x) p q = (p, q)
both_ok P Q (Err e) p q = tt
