use Rattle.std.proofs.Common.{◌≡◌, ◌+◌, ◌<◌, ◌≤◌, ℕ, Ok, None, sym, ap, subst, ◌∙◌, arith}
use Rattle.tile_walk.specs.Walk.{before_step, IsFurther}
use Rattle.tile_walk.specs.declared.step.Step.{Step}
use Rattle.feature_store.specs.declared.tile_parts.TileParts.{TileParts}
use Rattle.feature_store.specs.Left.{AllStay, left_of, stage_of}
use Rattle.feature_store.specs.Parts.{IsBegun, IsInHand, work_left}
use Rattle.feature_store.specs.Tiles.{TilesView, HasPlace, ShowsNothingFrom}
use Rattle.feature_store.specs.Walk.{ahead_of, left_in}
use Rattle.feature_store.proofs.Zooms.{from_below, place_here, nothing_between, shows_step, one_less, none_from, of_some}
use Rattle.feature_store.proofs.Walk.{from_before, hand_ahead, hand_left, none_left, place_within, step_ahead, step_left, tile_found, zoom_within}
use Rattle.feature_store.proofs.all_tiles.Tiles.take_in_hand.Goals as goal

pub returns-in-Some-clause-left : goal.returns-in-Some-clause-left
returns-in-Some-clause-left c =
    let w = c.self.inside in
    let hand = c.in-Some.hand in
    let is = sym c.take.ensures.value ∙ c.in-Some.is in
    subst (λ (v : TilesView). ahead_of (stage_of w.left) (left_in c.take.new.self) + work_left hand.1 ≤ v.ahead) c.self.view_is
    (hand_left (stage_of w.left) w.hand c.take.new.self hand is c.take.ensures.after)

pub returns-in-Some-clause-after : goal.returns-in-Some-clause-after
returns-in-Some-clause-after c = (stage_of c.self.inside.left, none_left (stage_of c.self.inside.left) c.take.new.self c.take.ensures.after)

pub returns-in-Some-clause-ahead : goal.returns-in-Some-clause-ahead
returns-in-Some-clause-ahead c =
    let w = c.self.inside in
    let hand = c.in-Some.hand in
    let is = sym c.take.ensures.value ∙ c.in-Some.is in
    let held = of_some (λ (h : ℕ × TileParts). (w.from ≡ h.0 + 1) × (0 < work_left h.1) × IsInHand w.map h) w.hand hand is c.self.invariant.hand in
    subst (λ (v : TilesView). ahead_of (stage_of w.left) (left_in c.take.new.self) < v.ahead) c.self.view_is
    (hand_ahead (stage_of w.left) w.hand c.take.new.self hand is c.take.ensures.after held.1)

pub invariant_of-self-in_err-step : goal.invariant_of-self-in_err-step
invariant_of-self-in_err-step c = record {
  is_map = c.self.invariant.is_map;
  zoom = c.step.ensures.zoom;
  first = c.step.ensures.first;
  left = c.in_err-step.ensures.failed c.self.inside.from c.self.invariant.left;
  hand = rw c.take.ensures.after tt;
}

pub invariant_of-self-in-Part : goal.invariant_of-self-in-Part
invariant_of-self-in-Part c =
    let m = c.self.inside.map in
    let start = c.self.inside.left in
    let new = c.step.new.self in
    let from = c.self.inside.from in
    let left = subst (λ (s : Step). AllStay m start.zoom (left_of start.walk) new.zoom (before_step s (left_of new.walk))) c.in-Part.is
    c.in_ok-step.ensures.left from c.self.invariant.left in
    record {
      is_map = c.self.invariant.is_map;
      zoom = c.step.ensures.zoom;
      first = c.step.ensures.first;
      left = left;
      hand = rw c.take.ensures.after tt;
    }

pub invariant_of-self-in-Over : goal.invariant_of-self-in-Over
invariant_of-self-in-Over c =
    let m = c.self.inside.map in
    let start = c.self.inside.left in
    let new = c.step.new.self in
    let from = c.self.inside.from in
    let left = subst (λ (s : Step). AllStay m start.zoom (left_of start.walk) new.zoom (before_step s (left_of new.walk))) c.in-Over.is
    c.in_ok-step.ensures.left from c.self.invariant.left in
    record {
      is_map = c.self.invariant.is_map;
      zoom = c.step.ensures.zoom;
      first = c.step.ensures.first;
      left = left;
      hand = rw c.take.ensures.after tt;
    }

pub returns-in-Part-clause-ahead : goal.returns-in-Part-clause-ahead
returns-in-Part-clause-ahead c =
    let w = c.self.inside in
    let new = c.step.new.self in
    let none : w.hand ≡ None = sym c.take.ensures.value ∙ c.in_default.is in
    let further = subst (λ (s : Step). IsFurther (stage_of w.left) (stage_of new) s) c.in-Part.is c.in_ok-step.ensures.further in
    subst (λ (v : TilesView). ahead_of (stage_of new) (left_in c.take.new.self) < v.ahead) c.self.view_is
    (step_ahead (stage_of w.left) (stage_of new) w.hand c.take.new.self none c.take.ensures.after further)

pub returns-in-Over-clause-over : goal.returns-in-Over-clause-over
returns-in-Over-clause-over c over =
    let m = c.self.inside.map in
    let start = c.self.inside.left in
    let new = c.step.new.self in
    let from = c.self.inside.from in
    let left = subst (λ (s : Step). AllStay m start.zoom (left_of start.walk) new.zoom (before_step s (left_of new.walk))) c.in-Over.is
    c.in_ok-step.ensures.left from c.self.invariant.left in
    let last = c.in_ok-step.ensures.over (ap Ok c.in-Over.is) in
    let none : c.self.inside.hand ≡ None = sym c.take.ensures.value ∙ c.in_default.is in
    subst (λ (v : TilesView). ShowsNothingFrom v.features v.from) c.self.view_is
    (subst (λ (n : ℕ). ShowsNothingFrom m n) (sym (from_before c.self.inside.hand from none))
    (none_from m c.self.invariant.is_map new.zoom from (left_of new.walk) last left))

pub overflow_add-self : goal.overflow_add-self
overflow_add-self c =
    let m = c.self.inside.map in
    let start = c.self.inside.left in
    let new = c.step.new.self in
    let from = c.self.inside.from in
    let left = subst (λ (s : Step). AllStay m start.zoom (left_of start.walk) new.zoom (before_step s (left_of new.walk))) c.in-Tile.is
    c.in_ok-step.ensures.left from c.self.invariant.left in
    let id = c.in-Tile.id in
    let numbers = c.in-Tile.numbers in
    omega (
      arith,
      place_within id (place_here m c.self.invariant.is_map new.zoom from (id, numbers.items) (left_of new.walk) left c.step.ensures.zoom),
    )

pub unwrap-at-requires : goal.unwrap-at-requires
unwrap-at-requires c =
    let m = c.self.inside.map in
    let start = c.self.inside.left in
    let new = c.step.new.self in
    let from = c.self.inside.from in
    let left = subst (λ (s : Step). AllStay m start.zoom (left_of start.walk) new.zoom (before_step s (left_of new.walk))) c.in-Tile.is
    c.in_ok-step.ensures.left from c.self.invariant.left in
    let id = c.in-Tile.id in
    let numbers = c.in-Tile.numbers in
    c.tile_of.ensures.there.1
    (place_within id (place_here m c.self.invariant.is_map new.zoom from (id, numbers.items) (left_of new.walk) left c.step.ensures.zoom))

pub of-requires : goal.of-requires
of-requires c =
    let m = c.self.inside.map in
    let start = c.self.inside.left in
    let new = c.step.new.self in
    let from = c.self.inside.from in
    let left = subst (λ (s : Step). AllStay m start.zoom (left_of start.walk) new.zoom (before_step s (left_of new.walk))) c.in-Tile.is
    c.in_ok-step.ensures.left from c.self.invariant.left in
    let id = c.in-Tile.id in
    let numbers = c.in-Tile.numbers in
    let at = c.unwrap-at.result in
    let place = place_here m c.self.invariant.is_map new.zoom from (id, numbers.items) (left_of new.walk) left c.step.ensures.zoom in
    record { zoom = zoom_within at.z at.x at.y id place (tile_found c.tile_of.result at id c.unwrap-at.ensures c.tile_of.ensures.tile) }

pub invariant_of-self-in-Tile : goal.invariant_of-self-in-Tile
invariant_of-self-in-Tile c =
    let m = c.self.inside.map in
    let start = c.self.inside.left in
    let new = c.step.new.self in
    let from = c.self.inside.from in
    let left = subst (λ (s : Step). AllStay m start.zoom (left_of start.walk) new.zoom (before_step s (left_of new.walk))) c.in-Tile.is
    c.in_ok-step.ensures.left from c.self.invariant.left in
    let id = c.in-Tile.id in
    let numbers = c.in-Tile.numbers in
    record {
      is_map = c.self.invariant.is_map;
      zoom = c.step.ensures.zoom;
      first = c.step.ensures.first;
      left = one_less m c.self.invariant.is_map new.zoom from (id, numbers.items) (left_of new.walk) left;
      hand = rw c.take.ensures.after tt;
    }

pub returns-in-Tile-clause-tile : goal.returns-in-Tile-clause-tile
returns-in-Tile-clause-tile c =
    let m = c.self.inside.map in
    let start = c.self.inside.left in
    let new = c.step.new.self in
    let from = c.self.inside.from in
    let left = subst (λ (s : Step). AllStay m start.zoom (left_of start.walk) new.zoom (before_step s (left_of new.walk))) c.in-Tile.is
    c.in_ok-step.ensures.left from c.self.invariant.left in
    let id = c.in-Tile.id in
    let numbers = c.in-Tile.numbers in
    let is_map = c.self.invariant.is_map in
    let at = c.unwrap-at.result in
    let place : HasPlace id = place_here m is_map new.zoom from (id, numbers.items) (left_of new.walk) left c.step.ensures.zoom in
    let is = tile_found c.tile_of.result at id c.unwrap-at.ensures c.tile_of.ensures.tile in
    let zoom = zoom_within at.z at.x at.y id place is in
    let none : c.self.inside.hand ≡ None = sym c.take.ensures.value ∙ c.in_default.is in
    let hand : ℕ × TileParts = (id, c.of.result) in
    let begun : IsBegun m from hand = record {
      here = from_below m is_map new.zoom from (id, numbers.items) (left_of new.walk) left;
      between = nothing_between m is_map new.zoom from (id, numbers.items) (left_of new.walk) left;
      tile = record {
        id = rw c.of.ensures.at is;
        few = c.of.ensures.work;
        making = c.of.ensures.making m (shows_step m is_map new.zoom from (id, numbers.items) (left_of new.walk) left at.z at.x at.y zoom is);
      };
    } in
    subst (λ (v : TilesView). IsBegun v.features v.from hand) c.self.view_is
    (subst (λ (n : ℕ). IsBegun m n hand) (sym (from_before c.self.inside.hand from none)) begun)

pub returns-in-Tile-clause-left : goal.returns-in-Tile-clause-left
returns-in-Tile-clause-left c =
    let w = c.self.inside in
    let new = c.step.new.self in
    let none : w.hand ≡ None = sym c.take.ensures.value ∙ c.in_default.is in
    let further = subst (λ (s : Step). IsFurther (stage_of w.left) (stage_of new) s) c.in-Tile.is c.in_ok-step.ensures.further in
    subst (λ (v : TilesView). ahead_of (stage_of new) (left_in c.take.new.self) + work_left c.of.result ≤ v.ahead) c.self.view_is
    (step_left (stage_of w.left) (stage_of new) w.hand c.take.new.self none c.take.ensures.after further (work_left c.of.result) c.of.ensures.work)

pub returns-in-Tile-clause-after : goal.returns-in-Tile-clause-after
returns-in-Tile-clause-after c = (stage_of c.step.new.self, none_left (stage_of c.step.new.self) c.take.new.self c.take.ensures.after)

pub returns-in-Tile-clause-ahead : goal.returns-in-Tile-clause-ahead
returns-in-Tile-clause-ahead c =
    let w = c.self.inside in
    let new = c.step.new.self in
    let none : w.hand ≡ None = sym c.take.ensures.value ∙ c.in_default.is in
    let further = subst (λ (s : Step). IsFurther (stage_of w.left) (stage_of new) s) c.in-Tile.is c.in_ok-step.ensures.further in
    subst (λ (v : TilesView). ahead_of (stage_of new) (left_in c.take.new.self) < v.ahead) c.self.view_is
    (step_ahead (stage_of w.left) (stage_of new) w.hand c.take.new.self none c.take.ensures.after further)
