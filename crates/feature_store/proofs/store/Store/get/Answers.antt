use Rattle.std.proofs.Common.{◌≡◌, sym, ap, subst, ◌∙◌}
use Rattle.std.specs.Prelude.{Some, IfSome, option_map}
use Rattle.feature_model.specs.Limits.{IsAllowed}
use Rattle.edit_text.specs.Views.{feature_view}
use Rattle.feature_store.specs.Inside.{stored_data, entries_data}
use Rattle.feature_store.specs.Store.{feature_at}
use Rattle.feature_store.proofs.Allowed.{allowed_there}
use Rattle.feature_store.proofs.Entries.{feature_found}
use Rattle.feature_store.proofs.store.Store.get.Goals as goal

pub returns-in-Some-clause-found : goal.returns-in-Some-clause-found
returns-in-Some-clause-found c =
    rw (← c.self.view_is)
    (ap Some c.view.ensures ∙ ap (option_map stored_data) c.in-Some.ensures ∙ sym (feature_found c.self.inside.features.entries c.args.id))

pub returns-in-Some-clause-allowed : goal.returns-in-Some-clause-allowed
returns-in-Some-clause-allowed c =
    let es = c.self.inside.features.entries in
    let found : Some (feature_view c.view.result) ≡ feature_at (entries_data es) c.args.id =
    ap Some c.view.ensures ∙ ap (option_map stored_data) c.in-Some.ensures ∙ sym (feature_found es c.args.id) in
    subst (λ o. IfSome o (IsAllowed c.args.id)) (sym found) (allowed_there (entries_data es) c.args.id c.self.invariant.is_map)

pub returns-in-None-clause-found : goal.returns-in-None-clause-found
returns-in-None-clause-found c =
    rw (← c.self.view_is) (ap (option_map stored_data) c.in-None.ensures ∙ sym (feature_found c.self.inside.features.entries c.args.id))
