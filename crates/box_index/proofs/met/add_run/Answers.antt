use Rattle.std.proofs.Common.{sym, ◌∙◌}
use Rattle.box_index.specs.Blocks.{joined}
use Rattle.box_index.proofs.Added.{none_met_in, added_none}
use Rattle.box_index.proofs.met.add_run.Goals as goal

pub returns-then-not-boxes_meet : goal.returns-then-not-boxes_meet
returns-then-not-boxes_meet c =
    added_none c.args.bounds.now c.args.from (joined c.args.blocks.now) c.args.left c.args.found.now.items
    (none_met_in c.args.bounds.now c.args.from c.args.span.now c.args.blocks.now c.requires (sym c.boxes_meet.ensures ∙ c.if-not-boxes_meet.true))
