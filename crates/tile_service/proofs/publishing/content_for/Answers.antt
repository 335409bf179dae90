use Rattle.std.proofs.Common.{ℕ, List, sym, subst}
use Rattle.std.specs.Prelude.{string_bytes}
use Rattle.area_content.specs.Faults.{IsBuiltFor}
use Rattle.pm_metadata.specs.Archive.{IsMetadata}
use Rattle.tile_service.proofs.Publications.Steps.{metadata_is_text, publishable}
use Rattle.tile_service.proofs.publishing.content_for.Goals as goal

pub content_of-requires-clause-metadata : goal.content_of-requires-clause-metadata
content_of-requires-clause-metadata c = subst (λ (text : List ℕ). IsMetadata text) (sym c.as_bytes.ensures.value)
    (metadata_is_text c.args.store.now.features c.in-Ok.text c.in-Ok.ensures)

pub returns-in-Ok-content_of-clause-archive : goal.returns-in-Ok-content_of-clause-archive
returns-in-Ok-content_of-clause-archive c =
    let m = c.args.store.now.features in
    let archive = c.in-Ok-content_of.content.archive in
    publishable m (string_bytes c.in-Ok.text) archive c.in-Ok.ensures
    (subst (λ (text : List ℕ). IsBuiltFor m text archive) c.as_bytes.ensures.value c.in-Ok-content_of.ensures.built)
