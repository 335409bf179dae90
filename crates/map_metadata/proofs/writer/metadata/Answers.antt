use Rattle.std.proofs.Common.{map, ap}
use Rattle.serde_json.specs.Data.{object, member, no_members}
use Rattle.serde_json.specs.View.{view}
use Rattle.map_metadata.specs.Fields.{name_bytes}
use Rattle.map_metadata.specs.Summaries.{layer_data}
use Rattle.map_metadata.proofs.Shown.{are_layers}
use Rattle.map_metadata.proofs.Written.{metadata_of}
use Rattle.map_metadata.proofs.writer.metadata.Goals as goal

pub returns : goal.returns
returns c m sums =
    let layers = c.args.layers in
    metadata_of m (object (member (name_bytes "vector_layers") (view c.in_ok-list.list) no_members)) c.document.result (
      map layer_data layers.entries,
      are_layers m layers sums c.in_ok-list.ensures.fields c.in_ok-list.ensures.ordered,
      ap (λ d. object (member (name_bytes "vector_layers") d no_members)) c.in_ok-list.ensures.value,
    ) c.document.ensures
