use Rattle.std.proofs.Common.{sym, ◌∙◌}
use Rattle.tile_cutter.proofs.PutLists.{none_ended}
use Rattle.tile_cutter.proofs.lines.go_on.Goals as goal

pub returns-clause-ended : goal.returns-clause-ended
returns-clause-ended c =
    none_ended c.args.out.now c.args.chain.now.items (c.args.from, c.args.to) (sym c.segment_meets_box.ensures ∙ c.if-not-segment_meets_box.false)
