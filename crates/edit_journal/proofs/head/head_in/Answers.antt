use Rattle.std.proofs.Common.{◌∙◌}
use Rattle.edit_journal.proofs.Fronts.{no_head, no_length}
use Rattle.edit_journal.proofs.head.head_in.Goals as goal

pub returns-in_default : goal.returns-in_default
returns-in_default c bytes fits front =
    no_head c.args.version c.args.number c.args.sector.now c.in-Some.head.version c.in-Some.head.number c.in-Some.head.length _ c.in-Some.ensures.0
    c.in-Some.ensures.1 (c.in-Some.ensures.2 ∙ c.length_in.ensures)
    c.has_part.ensures c.if-has_part.false bytes fits front

pub returns-in_default-2 : goal.returns-in_default-2
returns-in_default-2 c bytes fits front =
    no_length c.args.version c.args.number c.args.sector.now _ c.length_in.ensures c.in_default.ensures bytes fits front
