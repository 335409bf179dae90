use Rattle.std.proofs.Common.{sym, ◌∙◌}
use Rattle.tile_cutter.proofs.Ways.{returns_where}
use Rattle.tile_cutter.proofs.rings.returns_to_start.Goals as goal

pub returns : goal.returns
returns c = c.repeats.ensures
    ∙ returns_where c.args.ring.now c.in-Some.first.now c.copied.result (sym c.in-Some.ensures.value) (c.copied.ensures ∙ c.last.ensures.value)
