use Rattle.edit_text.specs.Views.{points_view}
use Rattle.tile_cutter.specs.Cut.{tile_ring}
use Rattle.tile_cutter.specs.Passes.{shown_ring}
use Rattle.tile_cutter.proofs.PutLists.{ring_can, ring_put, no_ring}
use Rattle.tile_cutter.proofs.rings.put_ring.Goals as goal

pub put_line-requires : goal.put_line-requires
put_line-requires c =
    let at = c.args.at in
    rw c.deref.ensures.value
    (ring_can at.x at.y c.args.out.now.at c.in_ok-shown.shown c.is_ring_shown.new.ring.items
    (shown_ring c.args.role (tile_ring at.z at.x at.y (points_view c.args.points))) c.if-shown.true c.in_ok-shown.ensures.ring c.requires.cursor
    c.in_ok-shown.ensures.drawable)

pub returns-in_ok-put_line-clause-put : goal.returns-in_ok-put_line-clause-put
returns-in_ok-put_line-clause-put c =
    let at = c.args.at in
    let same = c.deref.ensures.value in
    ring_put c.args.out.now c.put_line.new.self c.in_ok-shown.shown c.is_ring_shown.new.ring.items
    (shown_ring c.args.role (tile_ring at.z at.x at.y (points_view c.args.points))) c.if-shown.true c.in_ok-shown.ensures.ring
    (rw same at c.in_ok-put_line.ensures.bytes) (rw same at c.in_ok-put_line.ensures.at)

pub returns-else-shown-clause-put : goal.returns-else-shown-clause-put
returns-else-shown-clause-put c =
    let at = c.args.at in
    no_ring c.args.out.now c.in_ok-shown.shown c.is_ring_shown.new.ring.items
    (shown_ring c.args.role (tile_ring at.z at.x at.y (points_view c.args.points))) c.if-shown.false c.in_ok-shown.ensures.ring
