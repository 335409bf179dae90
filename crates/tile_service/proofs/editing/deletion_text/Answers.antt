use Rattle.tile_service.proofs.Edits.Limits.{without_count}
use Rattle.tile_service.proofs.editing.deletion_text.Goals as goal

pub returns-then-version-eq-FIRST_VERSION : goal.returns-then-version-eq-FIRST_VERSION
returns-then-version-eq-FIRST_VERSION c = λ id is. without_count c.args.version id c.args.text.now c.if-version-eq-FIRST_VERSION.true is
