use Rattle.std.proofs.Common.{map, sym, ap, ◌∙◌, ◌++◌}
use Rattle.number_map.specs.MapView.{MapView}
use Rattle.number_map.specs.Blocks.{joined}
use Rattle.feature_store.specs.Indexed.{index_entry}
use Rattle.feature_store.specs.Inside.{Stored, entries_data}
use Rattle.feature_store.proofs.feature_boxes.FeatureBoxes.of.Goals as goal

pub with-requires : goal.with-requires
with-requires c =
    c.in_ok-append_blocks.ensures
    ∙ ap (λ es. es ++ map index_entry (entries_data (joined c.blocks-2.result.now))) c.in_ok-boxes.ensures.items
    ∙ ap (λ es. map index_entry (entries_data es)) c.blocks-2.ensures.entries
    ∙ ap (λ (m : MapView Stored). map index_entry (entries_data m.entries)) (sym c.of.ensures)
