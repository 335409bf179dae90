use Rattle.std.proofs.Common.{◌≡◌, Some, None, [], ◌∷◌, ◌++◌, map, sym, ap, ◌∙◌}
use Rattle.std.specs.Option.{option_copied, option_map, option_map_or}
use Rattle.std.proofs.lemmas.List.{append-nil, map-append}
use Rattle.feature_store.specs.Chosen.{borrowed_data}
use Rattle.feature_store.specs.Inside.{stored_data}
use Rattle.feature_store.specs.Store.{FeatureMap, feature_at}
use Rattle.feature_store.proofs.gathered.push_stored.Goals as goal

pub returns-in_ok-push : goal.returns-in_ok-push
returns-in_ok-push c =
    let there : feature_at c.args.moment.now.features c.args.number ≡ Some (stored_data c.in-Some.feature.now) =
    sym c.get.ensures ∙ ap (λ o. option_map stored_data (option_copied o)) c.in-Some.is in
    let before : FeatureMap = map borrowed_data c.args.stored.now.items in
    ap (map borrowed_data) c.in_ok-push.ensures.items
    ∙ map-append borrowed_data c.args.stored.now.items ((c.args.number, c.in-Some.feature) ∷ [])
    ∙ ap (λ o. before ++ option_map_or (λ f. (c.args.number, f) ∷ []) o []) (sym there)

pub returns-in_default : goal.returns-in_default
returns-in_default c =
    let none : feature_at c.args.moment.now.features c.args.number ≡ None =
    sym c.get.ensures ∙ ap (λ o. option_map stored_data (option_copied o)) c.in_default.is in
    let before : FeatureMap = map borrowed_data c.args.stored.now.items in
    sym (append-nil before) ∙ ap (λ o. before ++ option_map_or (λ f. (c.args.number, f) ∷ []) o []) (sym none)
