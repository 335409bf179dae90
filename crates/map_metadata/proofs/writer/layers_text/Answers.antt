use Rattle.serde_json.specs.View.{view}
use Rattle.map_metadata.proofs.Written.{text_of}
use Rattle.map_metadata.proofs.writer.layers_text.Goals as goal

pub returns : goal.returns
returns c m sums = text_of m (view c.in_ok-value.value) c.to_string.result (c.in_ok-value.ensures m sums)
    c.to_string.ensures.text c.to_string.ensures.reads_back
