use Rattle.std.proofs.Common.{sym}
use Rattle.tile_routes.proofs.Texts.{asked-found, asked-other}
use Rattle.tile_routes.proofs.routes.Routes.target.Goals as goal

pub returns-in-Some-clause-asked : goal.returns-in-Some-clause-asked
returns-in-Some-clause-asked c =
    asked-found c.args.path.now c.in-Some.path.now _ c.in-Some.ensures.0 c.in-Some.ensures.1 c.found.ensures.asked

pub returns-in-None-clause-asked : goal.returns-in-None-clause-asked
returns-in-None-clause-asked c = sym (asked-other c.args.path.now c.in-None.ensures)
