use Rattle.std.proofs.Common.{◌≡◌, sym, ap, subst, ◌∙◌}
use Rattle.std.specs.Prelude.{IfSome}
use Rattle.std.specs.Option.{is_some, option_map}
use Rattle.feature_store.specs.Inside.{Stored, stored_data, entries_data}
use Rattle.feature_store.specs.Store.{feature_at, without_feature}
use Rattle.feature_store.proofs.Entries.{own_found, own_removed, removed_is, feature_found, box_found, is_some_box}
use Rattle.feature_store.proofs.Maps.{feature_at-without_same, feature_at-without_other}
use Rattle.feature_store.proofs.Snapshots.{map_without}
use Rattle.feature_store.proofs.store.Store.take.Goals as goal

pub invariant_of-self : goal.invariant_of-self
invariant_of-self c =
    let es = c.self.inside.features.entries in
    let before = ap (option_map stored_data) (c.as_ref-old.ensures.value ∙ c.remove-removed.ensures.removed) ∙ sym (feature_found es c.args.id) in
    let removed : entries_data c.remove-removed.new.self.entries ≡ without_feature (entries_data es) c.args.id =
    ap entries_data c.remove-removed.ensures.entries ∙ removed_is es c.args.id in
    let own = subst (λ o. IfSome o (λ (s : Stored). s.0 ≡ c.args.id)) (sym (c.as_ref-old.ensures.value ∙ c.remove-removed.ensures.removed))
    (own_found es c.args.id c.self.invariant.own) in
    let digest = c.digest_without-self-inside.ensures (entries_data es) c.args.id c.self.invariant.digest own before in
    record {
      is_map = rw removed (map_without (entries_data es) c.args.id c.self.invariant.is_map);
      own = rw c.remove-removed.ensures.entries (own_removed es c.args.id c.self.invariant.own);
      indexed = rw removed (c.take_box-bounds.ensures.indexed (entries_data es) before c.self.invariant.indexed);
      digest = rw removed digest;
    }

pub returns-clause-bounds : goal.returns-clause-bounds
returns-clause-bounds c =
    rw (← c.self.view_is)
    (c.take_box-bounds.ensures.bounds ∙ box_found c.self.inside.features.entries c.args.id _ (c.as_ref-old.ensures.value ∙ c.remove-removed.ensures.removed))

pub returns-clause-found : goal.returns-clause-found
returns-clause-found c =
    let es = c.self.inside.features.entries in
    let id = c.args.id in
    let bounds = c.take_box-bounds.ensures.bounds ∙ box_found es id _ (c.as_ref-old.ensures.value ∙ c.remove-removed.ensures.removed) in
    let same : is_some c.take_box-bounds.result ≡ is_some (feature_at (entries_data es) id) = ap is_some bounds ∙ is_some_box (entries_data es) id in
    rw (← c.self.view_is) (λ found. sym same ∙ found, λ there. same ∙ there)

pub returns-clause-removed : goal.returns-clause-removed
returns-clause-removed c =
    rw (← c.self.view_is) (ap (option_map stored_data) c.remove-removed.ensures.removed ∙ sym (feature_found c.self.inside.features.entries c.args.id))

pub returns-clause-own : goal.returns-clause-own
returns-clause-own c = rw c.remove-removed.ensures.removed (own_found c.self.inside.features.entries c.args.id c.self.invariant.own)

pub returns-clause-map : goal.returns-clause-map
returns-clause-map c = rw (← c.self.view_is, c.remove-removed.ensures.entries) (removed_is c.self.inside.features.entries c.args.id)

pub returns-clause-gone : goal.returns-clause-gone
returns-clause-gone c =
    rw (c.remove-removed.ensures.entries, removed_is c.self.inside.features.entries c.args.id)
    (feature_at-without_same _ _ c.self.invariant.is_map.ascending)

pub returns-clause-others : goal.returns-clause-others
returns-clause-others c n differs =
    rw (← c.self.view_is, c.remove-removed.ensures.entries, removed_is c.self.inside.features.entries c.args.id)
    (feature_at-without_other _ _ n differs)
