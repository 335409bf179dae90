use Rattle.std.proofs.Common.{rules}
use Rattle.std.specs.Prelude.{IsSome, IsTrue}
use Rattle.edit_text.specs.Views.{feature_view}
use Rattle.tile_service.proofs.Edits.Limits.{fits_there}
use Rattle.tile_service.proofs.editing.has.Goals as goal

pub returns-clause-number : goal.returns-clause-number
returns-clause-number c is =
    let found : IsTrue c.is_some.result → IsSome c.get.result = search rules in
    fits_there feature_view c.args.id c.get.result c.get.ensures.allowed (found is)
