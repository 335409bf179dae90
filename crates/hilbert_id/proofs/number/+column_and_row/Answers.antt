use Rattle.std.proofs.Common.{◌≡◌, ◌/◌, arith}
use Rattle.std.proofs.lemmas.Nat.{div_below}
use Rattle.hilbert_id.proofs.Stands.{stands_start, from_first, from_second, from_third, from_fourth}
use Rattle.hilbert_id.proofs.number.+column_and_row.Goals as goal

pub returns-then-zoom-eq0-clause-stands : goal.returns-then-zoom-eq0-clause-stands
returns-then-zoom-eq0-clause-stands t c = stands_start c.args.zoom c.args.position c.if-zoom-eq0.true c.requires.position

pub returns-in-0-clause-stands : goal.returns-in-0-clause-stands
returns-in-0-clause-stands t c =
    from_first c.args.zoom _ _ c.args.position c.quarter-each.result (omega arith) c.quarter-each.ensures.quarter c.in-0.is c.column_and_row-x.ensures.stands

pub returns-in-1-clause-stands : goal.returns-in-1-clause-stands
returns-in-1-clause-stands t c =
    from_second c.args.zoom _ _ c.args.position c.half_side-half.result c.quarter-each.result (omega arith)
    c.half_side-half.ensures.half c.quarter-each.ensures.quarter c.in-1.is c.column_and_row-x.ensures.stands

pub returns-in-2-clause-stands : goal.returns-in-2-clause-stands
returns-in-2-clause-stands t c =
    from_third c.args.zoom _ _ c.args.position c.half_side-half.result c.quarter-each.result (omega arith)
    c.half_side-half.ensures.half c.quarter-each.ensures.quarter c.in-2.is c.column_and_row-x.ensures.stands

pub returns-in_default-clause-stands : goal.returns-in_default-clause-stands
returns-in_default-clause-stands t c =
    let last : c.args.position / c.quarter-each.result ≡ 3 = omega (arith, div_below c.args.position c.quarter-each.result 4 (omega arith) (omega arith)) in
    from_fourth c.args.zoom _ _ c.args.position c.half_side-half.result c.quarter-each.result (omega arith)
    c.half_side-half.ensures.half c.quarter-each.ensures.quarter last c.column_and_row-x.ensures.stands
