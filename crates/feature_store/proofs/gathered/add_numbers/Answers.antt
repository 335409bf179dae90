use Rattle.std.proofs.Common.{◌≡◌, ◌++◌, map, sym, ap, subst, ◌∙◌}
use Rattle.std.specs.Prelude.{All}
use Rattle.std.proofs.lemmas.List.Elements.{All-weaker}
use Rattle.std.proofs.lemmas.Result.{on_ok_weaker}
use Rattle.feature_model.specs.Data.{put}
use Rattle.feature_model.specs.Limits.{IsAllowed}
use Rattle.feature_model.specs.Types.{IsChange}
use Rattle.feature_store.specs.Chosen.{chosen, borrowed_data, found_data}
use Rattle.feature_store.specs.Gathered.{Gathers}
use Rattle.feature_store.specs.Layers.{cuts_of}
use Rattle.feature_store.proofs.Chosen.{All-chosen}
use Rattle.feature_store.proofs.gathered.add_numbers.Goals as goal

pub add_each-requires-clause-allowed : goal.add_each-requires-clause-allowed
add_each-requires-clause-allowed c =
    let m = c.args.moment.now.features in
    let looked : map found_data c.deref-2.result.now ≡ chosen m c.args.numbers.now =
    ap (map found_data) c.deref-2.ensures.value ∙ c.in_ok-found.ensures
    ∙ ap (map borrowed_data) c.deref.ensures.value ∙ c.in_ok-stored.ensures in
    subst (All (λ e. IsAllowed e.0 e.1)) (sym looked)
    (All-chosen (λ e. IsAllowed e.0 e.1) m c.args.numbers.now
    (All-weaker (λ e. IsChange (put e.0 e.1)) (λ e. IsAllowed e.0 e.1) (λ e edit. edit.0) m c.requires.as_of.is_map.edits))

pub returns : goal.returns
returns c =
    let m = c.args.moment.now.features in
    let at = c.args.at in
    let looked : map found_data c.deref-2.result.now ≡ chosen m c.args.numbers.now =
    ap (map found_data) c.deref-2.ensures.value ∙ c.in_ok-found.ensures
    ∙ ap (map borrowed_data) c.deref.ensures.value ∙ c.in_ok-stored.ensures in
    on_ok_weaker c.add_each.result
    (λ step fs gathers. subst (λ es. Gathers c.add_each.new.gathered (λ name. fs name ++ cuts_of es name at.z at.x at.y)) looked (step fs gathers))
    c.add_each.ensures
