use Rattle.std.proofs.Common.{◌≡◌, ◌≤◌, length, ◌∷◌, [], List, ℕ, true, false, get_or, sym, ◌∙◌, arith}
use Rattle.std.specs.Prelude.{not}
use Rattle.std.proofs.lemmas.List.{length-drop, map-append}
use Rattle.std.proofs.lemmas.Result.{err_from_is_err_and}
use Rattle.std.specs.Borrow.{Bor}
use Rattle.pb_wire.proofs.Message.{back}
use Rattle.mvt_layer.specs.declared.tile.TagValue.{TagValue}
use Rattle.mvt_layer.specs.Tile.{bytes_of, tag_view, tag_views, Tagged, tagged}
use Rattle.mvt_layer.specs.Used.{uses}
use Rattle.mvt_layer.proofs.Tags.{tags_on, tags_twice, tags_fault, tags_odd, tags_done}
use Rattle.mvt_layer.proofs.features.tags_of.Goals as goal

pub returns-then-rest-lt2 : goal.returns-then-rest-lt2
returns-then-rest-lt2 c = λ _. tags_odd (bytes_of c.args.keys.now) (tag_views c.args.values.now) c.loop-rest.used (tagged c.loop-rest.tags.items)
    c.loop-rest.rest.now _ c.loop-rest-test.true (omega (arith, c.if-rest-lt2.true)) c.loop-rest.invariant.read

pub returns-then-not-is_new : goal.returns-then-not-is_new
returns-then-not-is_new c =
    let two : 2 ≤ length c.loop-rest.rest.now = omega (arith, c.if-rest-lt2.false) in
    let old : false ≡ not (uses c.loop-rest.used (get_or c.loop-rest.rest.now 0 0)) = sym c.if-not-is_new.true ∙ c.in_ok-is_new.ensures.added in
    λ _. tags_twice (bytes_of c.args.keys.now) (tag_views c.args.values.now) c.loop-rest.used (tagged c.loop-rest.tags.items)
    c.loop-rest.rest.now _ two old c.loop-rest.invariant.read

pub returns-in_err-tag : goal.returns-in_err-tag
returns-in_err-tag c =
    let p = err_from_is_err_and c.from_residual-in_err-tag.result c.from_residual-in_err-tag.ensures.1 in
    let new : true ≡ not (uses c.loop-rest.used (get_or c.loop-rest.rest.now 0 0)) =
    sym c.if-not-is_new.false ∙ c.in_ok-is_new.ensures.added in
    let two : 2 ≤ length c.loop-rest.rest.now = omega (arith, c.if-rest-lt2.false) in
    rw (p.1, p.2) (λ _. tags_fault (bytes_of c.args.keys.now) (tag_views c.args.values.now) c.loop-rest.used (tagged c.loop-rest.tags.items)
    c.loop-rest.rest.now _ two new c.loop-rest.invariant.read c.in_err-tag.field-0.0 c.in_err-tag.ensures)

pub loop-rest-preserved : goal.loop-rest-preserved
loop-rest-preserved c =
    let new : true ≡ not (uses c.loop-rest.used (get_or c.loop-rest.rest.now 0 0)) =
    sym c.if-not-is_new.false ∙ c.in_ok-is_new.ensures.added in
    let two : 2 ≤ length c.loop-rest.rest.now = omega (arith, c.if-rest-lt2.false) in
    let viewed = map-append {B = Tagged} (λ (t : Bor (List ℕ) × TagValue). (t.0.now, tag_view t.1)) c.loop-rest.tags.items (c.in_ok-tag.tag ∷ []) in
    record {
      room = rw back (omega (
        arith,
        c.loop-rest.invariant.room,
        two,
        c.push_reserved.ensures.len,
        c.push_reserved.ensures.capacity,
        length-drop 2 c.loop-rest.rest.now,
      ));
      read = rw (c.push_reserved.ensures.items, back, viewed)
          (tags_on (bytes_of c.args.keys.now) (tag_views c.args.values.now) c.loop-rest.used c.insert.new.self (tagged c.loop-rest.tags.items)
          (c.in_ok-tag.tag.0.now, tag_view c.in_ok-tag.tag.1) c.loop-rest.rest.now _
          two new (c.in_ok-is_new.ensures.more c.if-not-is_new.false) c.in_ok-tag.ensures c.loop-rest.invariant.read);
    }

pub push_reserved-requires : goal.push_reserved-requires
push_reserved-requires c = omega (arith, c.loop-rest.invariant.room, c.if-rest-lt2.false)

pub returns : goal.returns
returns c =
    tags_done (bytes_of c.args.keys.now) (tag_views c.args.values.now) c.loop-rest.used (tagged c.loop-rest.tags.items) c.loop-rest.rest.now _
    c.loop-rest-test.false c.loop-rest.invariant.read
