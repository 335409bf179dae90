use Rattle.std.proofs.Common.{List, ℕ, Vec, Global, ap, sym, subst}
use Rattle.pm_metadata.specs.Archive.{IsMetadata}
use Rattle.tile_service.proofs.Publications.Steps.{metadata_is_text}
use Rattle.tile_service.proofs.reading.MapReading.content.Goals as goal

pub of-requires-clause-metadata : goal.of-requires-clause-metadata
of-requires-clause-metadata c = subst (λ (text : List ℕ). IsMetadata text) (sym (ap (λ (v : Vec ℕ Global). v.items) c.into_bytes.ensures.value))
    (metadata_is_text c.args.self.metadata.features c.in_ok-text.text c.in_ok-text.ensures)
