use Rattle.std.proofs.Common.{sym, ap, subst, ◌∙◌}
use Rattle.feature_store.specs.Reading.{ReaderView, IsRead, below}
use Rattle.feature_store.proofs.Reading.{all_below}
use Rattle.map_metadata.specs.Summaries.{SumsUp}
use Rattle.map_metadata.proofs.draft.MetadataDraft.finish.Goals as goal

pub returns : goal.returns
returns c =
    let d = c.self.inside in
    let m = d.store.value.features in
    let all = all_below m d.from c.self.invariant.is_map (subst IsRead (sym c.self.view_is) c.requires) in
    c.layers_text.ensures c.args.self.features
    (subst (SumsUp d.layers) (all ∙ ap (λ (v : ReaderView). v.features) c.self.view_is) c.self.invariant.sums)
