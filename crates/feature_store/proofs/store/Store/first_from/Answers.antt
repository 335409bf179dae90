use Rattle.std.proofs.Common.{◌≡◌, sym, ap, subst, ◌∙◌}
use Rattle.std.specs.Prelude.{Some, IfSome, option_map}
use Rattle.feature_model.specs.Limits.{IsAllowed}
use Rattle.edit_text.specs.Views.{feature_view}
use Rattle.feature_store.specs.Inside.{entry_data, entries_data}
use Rattle.feature_store.specs.Store.{feature_from}
use Rattle.feature_store.proofs.Allowed.{allowed_from}
use Rattle.feature_store.proofs.Entries.{first_found}
use Rattle.feature_store.proofs.store.Store.first_from.Goals as goal

pub returns-in-Some-clause-found : goal.returns-in-Some-clause-found
returns-in-Some-clause-found c =
    rw (← c.self.view_is)
    (ap (λ f. Some (c.in-Some.entry.now.0, f)) c.view.ensures ∙ ap (option_map entry_data) c.in-Some.ensures
    ∙ sym (first_found c.self.inside.features.entries c.args.id))

pub returns-in-None-clause-found : goal.returns-in-None-clause-found
returns-in-None-clause-found c =
    rw (← c.self.view_is) (ap (option_map entry_data) c.in-None.ensures ∙ sym (first_found c.self.inside.features.entries c.args.id))

pub returns-in-Some-clause-allowed : goal.returns-in-Some-clause-allowed
returns-in-Some-clause-allowed c =
    let es = c.self.inside.features.entries in
    let found : Some (c.in-Some.entry.now.0, feature_view c.view.result) ≡ feature_from (entries_data es) c.args.id =
    ap (λ f. Some (c.in-Some.entry.now.0, f)) c.view.ensures ∙ ap (option_map entry_data) c.in-Some.ensures ∙ sym (first_found es c.args.id) in
    subst (λ o. IfSome o (λ e. IsAllowed e.0 e.1)) (sym found) (allowed_from (entries_data es) c.args.id c.self.invariant.is_map)
