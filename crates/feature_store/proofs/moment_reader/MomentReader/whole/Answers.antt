use Rattle.std.proofs.Common.{map, sym, ap, subst, ◌∙◌, ◌++◌, arith}
use Rattle.feature_model.specs.declared.limits.TheConstants.{NUMBER_END}
use Rattle.number_map.specs.Blocks.{joined}
use Rattle.number_map.specs.MapView.{MapView}
use Rattle.feature_store.specs.Indexed.{index_entry}
use Rattle.feature_store.specs.Inside.{Stored, entries_data}
use Rattle.feature_store.specs.Store.{IsMap, snapshot}
use Rattle.feature_store.proofs.Reading.{all_below}
use Rattle.feature_store.proofs.moment_reader.MomentReader.whole.Goals as goal

pub invariant_of-result : goal.invariant_of-result
invariant_of-result c =
    let m = entries_data c.of.result.value.entries in
    let same = ap (λ (v : MapView Stored). entries_data v.entries) c.of.ensures ∙ c.features.ensures.map in
    let is_map = subst IsMap (sym same) c.len.ensures.map in
    let all = sym (all_below m NUMBER_END is_map (omega arith)) in
    record {
      is_map = is_map;
      text = c.in_ok-text.ensures ∙ ap snapshot (sym same ∙ all);
      boxes =
          c.in_ok-append_blocks.ensures
          ∙ ap (λ es. es ++ map index_entry (entries_data (joined c.blocks-2.result.now))) c.in_ok-boxes.ensures.items
          ∙ ap (map index_entry) (c.blocks-2.ensures ∙ sym same ∙ all);
      within = omega arith;
    }
