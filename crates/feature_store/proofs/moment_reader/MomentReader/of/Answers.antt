use Rattle.std.proofs.Common.{map, sym, ap, subst, ◌∙◌, arith}
use Rattle.number_map.specs.MapView.{MapView}
use Rattle.feature_store.specs.Indexed.{index_entry}
use Rattle.feature_store.specs.Inside.{Stored, entries_data}
use Rattle.feature_store.specs.Store.{IsMap}
use Rattle.feature_store.proofs.Reading.{none_below, no_text}
use Rattle.feature_store.proofs.moment_reader.MomentReader.of.Goals as goal

pub invariant_of-result : goal.invariant_of-result
invariant_of-result c =
    let m = entries_data c.of.result.value.entries in
    let same = ap (λ (v : MapView Stored). entries_data v.entries) c.of.ensures ∙ c.features.ensures.map in
    record {
      is_map = subst IsMap (sym same) c.len.ensures.map;
      text = c.reserved_text.ensures ∙ no_text m;
      boxes = c.in_ok-boxes.ensures.items ∙ ap (map index_entry) (sym (none_below m));
      within = omega arith;
    }
