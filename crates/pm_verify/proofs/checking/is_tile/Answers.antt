use Rattle.std.proofs.Common.{refl}
use Rattle.pm_verify.proofs.VerifiedLaws.{refused_tile}
use Rattle.pm_verify.proofs.checking.is_tile.Goals as goal

pub returns-in-Ok : goal.returns-in-Ok
returns-in-Ok c = (λ _. c.in-Ok.ensures.found, λ _. refl)

pub returns-in-Err : goal.returns-in-Err
returns-in-Err c = refused_tile c.args.content.now c.in-Err.fault c.refused.result c.refused.ensures.other c.in-Err.ensures.only
