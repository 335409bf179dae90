use Rattle.std.proofs.Common.{subst}
use Rattle.map_metadata.specs.Summaries.{SumsUp}
use Rattle.map_metadata.proofs.writer.metadata_text.Goals as goal

pub returns : goal.returns
returns c = c.layers_text.ensures c.args.store.now.features (subst (SumsUp c.in_ok-layers.layers) c.blocks-2.ensures c.in_ok-layers.ensures)
