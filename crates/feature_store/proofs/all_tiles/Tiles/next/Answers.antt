use Rattle.std.proofs.Common.{◌≡◌, ◌+◌, ◌≤◌, ℕ, Ok, Vec, Global, sym, ap, subst, ◌∙◌, arith}
use Rattle.std.specs.Option.{option_map}
use Rattle.feature_store.specs.declared.tile_parts.TileParts.{TileParts}
use Rattle.feature_store.specs.Layers.{layers}
use Rattle.feature_store.specs.Left.{stage_of}
use Rattle.feature_store.specs.Parts.{IsBegun, IsInMaking, IsNoneInHand, work_left}
use Rattle.feature_store.specs.Store.{FeatureMap}
use Rattle.feature_store.specs.Tiles.{TilesView, tile_bytes}
use Rattle.hilbert_id.specs.declared.tile_at.TileAt.{TileAt}
use Rattle.feature_store.proofs.Walk.{ahead_part, none_in_hand, none_shown, of_hand, some_left}
use Rattle.feature_store.proofs.all_tiles.Tiles.next.Goals as goal

pub returns-in-Over-clause-over : goal.returns-in-Over-clause-over
returns-in-Over-clause-over c over = c.in_ok-hand.ensures.over (ap Ok c.in-Over.is)

pub invariant_of-self-then-not-is_whole : goal.invariant_of-self-then-not-is_whole
invariant_of-self-then-not-is_whole c =
    let start = c.args.self.now in
    let w = c.self.inside in
    let hand = c.in-Hand.hand in
    let taken = c.in_ok-hand.field-0 in
    let begun = of_hand (IsBegun start.features start.from) taken hand c.in-Hand.is c.in_ok-hand.ensures.tile in
    let from = of_hand (λ (h : ℕ × TileParts). c.take_in_hand.new.self.from ≡ h.0 + 1) taken hand c.in-Hand.is c.in_ok-hand.ensures.from in
    let after = of_hand (λ (h : ℕ × TileParts). IsNoneInHand c.take_in_hand.new.self.ahead) taken hand c.in-Hand.is c.in_ok-hand.ensures.after in
    let map : c.args.moment.now.features ≡ w.map = c.requires.same ∙ sym c.take_in_hand.ensures.map ∙ sym (ap (λ (v : TilesView). v.features) c.self.view_is) in
    let few = begun.tile.few in
    record {
      is_map = c.self.invariant.is_map;
      zoom = c.self.invariant.zoom;
      first = c.self.invariant.first;
      left = c.self.invariant.left;
      hand = (
        none_in_hand w.map w.hand w.from (hand.0 + 1) (stage_of w.left) c.self.invariant.hand (ap (λ (v : TilesView). v.from) c.self.view_is ∙ from)
            (subst (λ (v : TilesView). IsNoneInHand v.ahead) (sym c.self.view_is) after),
        some_left (work_left c.add_part.new.self) c.is_whole.result c.is_whole.ensures c.if-not-is_whole.true,
        record {
          id = rw c.add_part.ensures.at begun.tile.id;
          few = omega (arith, few, c.in_ok-add_part.ensures.work);
          making = subst (λ (k : FeatureMap). IsInMaking k c.add_part.new.self) map c.in_ok-add_part.ensures.making;
        },
      );
    }

pub returns-then-not-is_whole-clause-ahead : goal.returns-then-not-is_whole-clause-ahead
returns-then-not-is_whole-clause-ahead c =
    let start = c.args.self.now in
    let hand = c.in-Hand.hand in
    let left = of_hand (λ (h : ℕ × TileParts). c.take_in_hand.new.self.ahead + work_left h.1 ≤ start.ahead) c.in_ok-hand.field-0 hand c.in-Hand.is
    c.in_ok-hand.ensures.left in
    let some = some_left (work_left c.add_part.new.self) c.is_whole.result c.is_whole.ensures c.if-not-is_whole.true in
    ahead_part (stage_of c.self.inside.left) (work_left hand.1) (work_left c.add_part.new.self) start.ahead c.self.inside.hand
    (subst (λ (v : TilesView). v.ahead + work_left hand.1 ≤ start.ahead) (sym c.self.view_is) left)
    (omega (arith, some, c.in_ok-add_part.ensures.work))

pub returns-in-None-clause-part : goal.returns-in-None-clause-part
returns-in-None-clause-part c same =
    let start = c.args.self.now in
    let hand = c.in-Hand.hand in
    let taken = c.in_ok-hand.field-0 in
    let begun = of_hand (IsBegun start.features start.from) taken hand c.in-Hand.is c.in_ok-hand.ensures.tile in
    let from = of_hand (λ (h : ℕ × TileParts). c.take_in_hand.new.self.from ≡ h.0 + 1) taken hand c.in-Hand.is c.in_ok-hand.ensures.from in
    let end = sym (ap (λ (v : TilesView). v.from) c.self.view_is ∙ from) in
    let here = begun.here in
    let m = c.args.moment.now.features in
    let at = hand.1.at in
    let shown : option_map (λ (v : Vec ℕ Global). v.items) c.in_ok-bytes.field-0 ≡ tile_bytes (layers start.features at.z at.x at.y) =
    c.in_ok-bytes.ensures m c.requires.as_of.is_map c.in_ok-add_part.ensures.making
    ∙ ap (λ (t : TileAt). tile_bytes (layers m t.z t.x t.y)) c.add_part.ensures.at
    ∙ ap (λ (k : FeatureMap). tile_bytes (layers k at.z at.x at.y)) c.requires.same in
    let none = sym (ap (option_map (λ (v : Vec ℕ Global). v.items)) c.in-None.is) ∙ shown in
    (omega (arith, here, end), λ z x y id is above under. none_shown start.features start.from hand begun none z x y id is above (omega (arith, under, end)))
