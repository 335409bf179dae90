use Rattle.std.proofs.Common.{◌≡◌, ◌≤◌, ◌++◌, length, ◌∷◌, [], true, false, get_or, refl, sym, ◌∙◌, arith}
use Rattle.std.specs.Prelude.{not}
use Rattle.std.proofs.lemmas.Result.{err_from_is_err_and}
use Rattle.pb_wire.proofs.Message.{back}
use Rattle.geometry_commands.proofs.Past.{is_ok}
use Rattle.mvt_layer.specs.Reading.{tags_at}
use Rattle.mvt_layer.specs.Tile.{bytes_of, tag_view, tag_views, Tagged}
use Rattle.mvt_layer.specs.Used.{uses}
use Rattle.mvt_layer.proofs.Tags.{tags_on, tags_twice, tags_fault, tags_odd, tags_done}
use Rattle.mvt_layer.proofs.checking.check_tags.Goals as goal

pub loop-rest-init : goal.loop-rest-init
loop-rest-init c = ([], record { used = []; same = c.clear.ensures; on = refl })

pub returns-then-rest-lt2-clause-fault : goal.returns-then-rest-lt2-clause-fault
returns-then-rest-lt2-clause-fault c =
    let h = c.loop-rest.invariant in
    λ _. tags_odd (bytes_of c.args.keys.now) (tag_views c.args.values.now) c.loop-rest.used h.0 c.loop-rest.rest.now _ c.loop-rest-test.true
    (omega (arith, c.if-rest-lt2.true)) h.1

pub returns-then-not-is_new-clause-fault : goal.returns-then-not-is_new-clause-fault
returns-then-not-is_new-clause-fault c =
    let h = c.loop-rest.invariant in
    let two : 2 ≤ length c.loop-rest.rest.now = omega (arith, c.if-rest-lt2.false) in
    let old : false ≡ not (uses c.loop-rest.used (get_or c.loop-rest.rest.now 0 0)) = sym c.if-not-is_new.true ∙ c.in_ok-is_new.ensures.added in
    λ _. tags_twice (bytes_of c.args.keys.now) (tag_views c.args.values.now) c.loop-rest.used h.0 c.loop-rest.rest.now _ two old h.1

pub returns-in_err-_tag-clause-fault : goal.returns-in_err-_tag-clause-fault
returns-in_err-_tag-clause-fault c =
    let p = err_from_is_err_and c.from_residual-in_err-_tag.result c.from_residual-in_err-_tag.ensures.1 in
    let h = c.loop-rest.invariant in
    let new : true ≡ not (uses c.loop-rest.used (get_or c.loop-rest.rest.now 0 0)) = sym c.if-not-is_new.false ∙ c.in_ok-is_new.ensures.added in
    let two : 2 ≤ length c.loop-rest.rest.now = omega (arith, c.if-rest-lt2.false) in
    rw (p.1, p.2) (λ _. tags_fault (bytes_of c.args.keys.now) (tag_views c.args.values.now) c.loop-rest.used h.0 c.loop-rest.rest.now _ two new h.1
    c.in_err-_tag.field-0.0 c.in_err-_tag.ensures)

pub loop-rest-preserved : goal.loop-rest-preserved
loop-rest-preserved c =
    let h = c.loop-rest.invariant in
    let tag : Tagged = (c.in_ok-_tag._tag.0.now, tag_view c.in_ok-_tag._tag.1) in
    let new : true ≡ not (uses c.loop-rest.used (get_or c.loop-rest.rest.now 0 0)) = sym c.if-not-is_new.false ∙ c.in_ok-is_new.ensures.added in
    let two : 2 ≤ length c.loop-rest.rest.now = omega (arith, c.if-rest-lt2.false) in (
      h.0 ++ tag ∷ [],
      rw back (tags_on (bytes_of c.args.keys.now) (tag_views c.args.values.now) c.loop-rest.used c.insert.new.self h.0 tag c.loop-rest.rest.now _
          two new (c.in_ok-is_new.ensures.more c.if-not-is_new.false) c.in_ok-_tag.ensures h.1),
    )

pub returns-clause-found : goal.returns-clause-found
returns-clause-found c =
    let h = c.loop-rest.invariant in
    is_ok (tags_at (bytes_of c.args.keys.now) (tag_views c.args.values.now) [] [] c.args.indices.now) h.0
    (tags_done (bytes_of c.args.keys.now) (tag_views c.args.values.now) c.loop-rest.used h.0 c.loop-rest.rest.now _ c.loop-rest-test.false h.1)
