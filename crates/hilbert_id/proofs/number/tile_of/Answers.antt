use Rattle.std.proofs.Common.{◌-◌, Some, ap, arith}
use Rattle.hilbert_id.proofs.Ids.{one_tile_of, no_tile_behind}
use Rattle.hilbert_id.proofs.SameTile.{same_tile}
use Rattle.hilbert_id.proofs.number.tile_of.Goals as goal

pub returns-then-id-ge-TILE_IDS-clause-only : goal.returns-then-id-ge-TILE_IDS-clause-only
returns-then-id-ge-TILE_IDS-clause-only c = λ at h. absurd (no_tile_behind at.z at.x at.y c.args.id at.zoom h c.if-id-ge-TILE_IDS.true)

pub returns-clause-only : goal.returns-clause-only
returns-clause-only c = λ at h.
    let there =
    one_tile_of c.zoom_of-z.result c.column_and_row-x.result.0 c.column_and_row-x.result.1 at.z at.x at.y c.args.id
    (c.args.id - c.first_of.result, c.column_and_row-x.ensures.stands, omega arith) h in
    ap Some (same_tile _ at there.0 there.1 there.2)
