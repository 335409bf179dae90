use Rattle.std.proofs.Common.{ap, ◌∙◌}
use Rattle.pm_build.specs.Building.{BuilderView}
use Rattle.pm_build.specs.declared.ahead.TheConstants.{AHEAD_BYTES}
use Rattle.area_content.proofs.Pieces.{part_put}
use Rattle.area_content.proofs.collected.Collected.put_ahead.Goals as goal

pub returns-clause-ahead : goal.returns-clause-ahead
returns-clause-ahead c =
    let waiting = c.args.waiting in
    ap (λ (v : BuilderView). v.ahead) c.in_ok-put_ahead.ensures.put
    ∙ part_put waiting.put AHEAD_BYTES waiting.tile.1.items c.args.self.now.kept.ahead c.deref.result.now c.requires.ahead c.deref.ensures.value
