use Rattle.std.proofs.Common.{arith}
use Rattle.hilbert_id.proofs.Stands.{stands_first, first_quarter, second_quarter, third_quarter, fourth_quarter}
use Rattle.hilbert_id.proofs.number.+position.Goals as goal

pub returns-then-zoom-eq0-clause-stands : goal.returns-then-zoom-eq0-clause-stands
returns-then-zoom-eq0-clause-stands t c = stands_first c.args.zoom c.args.x c.args.y c.if-zoom-eq0.true c.requires.column c.requires.row

pub returns-in-true-true-clause-stands : goal.returns-in-true-true-clause-stands
returns-in-true-true-clause-stands t c = first_quarter c.args.zoom c.args.x c.args.y c.position.result (omega arith) c.position.ensures.stands

pub returns-in-true-false-clause-stands : goal.returns-in-true-false-clause-stands
returns-in-true-false-clause-stands t c =
    second_quarter c.args.zoom c.args.x c.args.y c.position-in-true-false.result c.half_side-half.result c.quarter-each.result (omega arith)
    c.half_side-half.ensures.half c.quarter-each.ensures.quarter c.in-true-false.is-1 c.position-in-true-false.ensures.stands

pub returns-in-false-true-clause-stands : goal.returns-in-false-true-clause-stands
returns-in-false-true-clause-stands t c =
    fourth_quarter c.args.zoom c.args.x c.args.y c.position-in-false-true.result c.half_side-half.result c.quarter-each.result (omega arith)
    c.half_side-half.ensures.half c.quarter-each.ensures.quarter (omega arith) c.in-false-true.is-1 c.position-in-false-true.ensures.stands

pub returns-in-false-false-clause-stands : goal.returns-in-false-false-clause-stands
returns-in-false-false-clause-stands t c =
    third_quarter c.args.zoom c.args.x c.args.y c.position-in-false-false.result c.half_side-half.result c.quarter-each.result (omega arith)
    c.half_side-half.ensures.half c.quarter-each.ensures.quarter c.in-false-false.is-0 c.in-false-false.is-1 c.position-in-false-false.ensures.stands
