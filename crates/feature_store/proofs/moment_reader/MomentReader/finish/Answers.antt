use Rattle.std.proofs.Common.{map, sym, ap, subst, ◌∙◌}
use Rattle.feature_store.specs.Indexed.{index_entry}
use Rattle.feature_store.specs.Inside.{entries_data}
use Rattle.feature_store.specs.Reading.{ReaderView, IsRead}
use Rattle.feature_store.specs.Store.{snapshot}
use Rattle.feature_store.proofs.Reading.{all_below}
use Rattle.feature_store.proofs.moment_reader.MomentReader.finish.Goals as goal

pub with-requires : goal.with-requires
with-requires c =
    let m = entries_data c.self.inside.features.value.entries in
    c.self.invariant.boxes
    ∙ ap (map index_entry) (all_below m c.self.inside.from c.self.invariant.is_map (subst IsRead (sym c.self.view_is) c.requires))

pub returns-clause-text : goal.returns-clause-text
returns-clause-text c =
    let m = entries_data c.self.inside.features.value.entries in
    c.self.invariant.text ∙ ap snapshot (all_below m c.self.inside.from c.self.invariant.is_map (subst IsRead (sym c.self.view_is) c.requires))
    ∙ ap (λ (v : ReaderView). snapshot v.features) c.self.view_is
