use Rattle.std.proofs.Common.{◌≡◌, sym, ap, ◌∙◌, ◌<◌, length, subst}
use Rattle.std.specs.Prelude.{IfSome}
use Rattle.std.specs.Option.{option_map}
use Rattle.feature_model.specs.Data.{put}
use Rattle.feature_model.specs.Types.{IsChange}
use Rattle.feature_store.specs.Digests.{entry_hash}
use Rattle.feature_store.specs.Indexed.{index_entry}
use Rattle.feature_store.specs.Inside.{Stored, stored_data, entries_data}
use Rattle.feature_store.specs.declared.limit.TheConstants.{TEXTS_END}
use Rattle.feature_store.specs.Store.{StoreView, box_at, with_feature, snapshot}
use Rattle.feature_store.proofs.Entries.{own_found, own_set, set_is, feature_found, box_found}
use Rattle.feature_store.proofs.Maps.{IsMap-with_feature, feature_at-with_same, feature_at-with_other}
use Rattle.feature_store.proofs.store.Store.set.Goals as goal

pub invariant_of-self : goal.invariant_of-self
invariant_of-self c =
    let es = c.self.inside.features.entries in
    let id = c.id-id.result in
    let f = c.args.stored.1 in
    let same : c.args.stored.0 ≡ id = sym c.id-id.ensures.number in
    let edit = subst (λ n. IsChange (put n f)) same c.id-id.ensures.change in
    let short =
    subst (λ n. length (snapshot (with_feature (entries_data es) n f)) < TEXTS_END) same
    (subst (λ (v : StoreView). length (snapshot (with_feature v.features c.args.stored.0 f)) < TEXTS_END) (sym c.self.view_is) c.requires.texts) in
    let before = ap (option_map stored_data) (c.as_ref-old.ensures.value ∙ c.insert-replaced.ensures.before) ∙ sym (feature_found es id) in
    let entry = c.index_entry-entry.ensures ∙ ap (λ g. index_entry (id, g)) c.view.ensures in
    let indexed = c.set_box-before.ensures.indexed (entries_data es) id f entry c.self.invariant.is_map.ascending before c.self.invariant.indexed in
    let set : entries_data c.insert-replaced.new.self.entries ≡ with_feature (entries_data es) id f =
    ap entries_data c.insert-replaced.ensures.entries ∙ set_is es id c.args.stored in
    let own = subst (λ o. IfSome o (λ (s : Stored). s.0 ≡ id)) (sym (c.as_ref-old.ensures.value ∙ c.insert-replaced.ensures.before))
    (own_found es id c.self.invariant.own) in
    let hashed = c.entry_hash-hash.ensures ∙ ap (λ n. entry_hash (n, f)) same in
    let digest = c.digest_with-self-inside.ensures (entries_data es) id f c.self.invariant.digest hashed c.self.invariant.is_map.ascending own before in
    record {
      is_map = rw set (IsMap-with_feature (entries_data es) id f c.self.invariant.is_map edit short);
      own = rw c.insert-replaced.ensures.entries (own_set es id c.args.stored same c.self.invariant.own);
      indexed = rw set indexed;
      digest = rw set digest;
    }

pub returns-clause-before : goal.returns-clause-before
returns-clause-before c =
    let es = c.self.inside.features.entries in
    rw (← c.self.view_is)
    (c.set_box-before.ensures.bounds ∙ box_found es c.id-id.result _ (c.as_ref-old.ensures.value ∙ c.insert-replaced.ensures.before)
    ∙ ap (box_at (entries_data es)) c.id-id.ensures.number)

pub returns-clause-replaced : goal.returns-clause-replaced
returns-clause-replaced c =
    let es = c.self.inside.features.entries in
    rw (← c.self.view_is, ← c.id-id.ensures.number) (ap (option_map stored_data) c.insert-replaced.ensures.before ∙ sym (feature_found es c.id-id.result))

pub returns-clause-own : goal.returns-clause-own
returns-clause-own c =
    rw (← c.id-id.ensures.number, c.insert-replaced.ensures.before) (own_found c.self.inside.features.entries c.id-id.result c.self.invariant.own)

pub returns-clause-map : goal.returns-clause-map
returns-clause-map c =
    let es = c.self.inside.features.entries in
    rw (← c.self.view_is, c.insert-replaced.ensures.entries, c.id-id.ensures.number) (set_is es c.args.stored.0 c.args.stored)

pub returns-clause-here : goal.returns-clause-here
returns-clause-here c =
    rw (c.insert-replaced.ensures.entries, c.id-id.ensures.number, set_is c.self.inside.features.entries c.args.stored.0 c.args.stored)
    (feature_at-with_same _ _ _)

pub returns-clause-others : goal.returns-clause-others
returns-clause-others c n differs =
    rw (← c.self.view_is, c.insert-replaced.ensures.entries, c.id-id.ensures.number, set_is c.self.inside.features.entries c.args.stored.0 c.args.stored)
    (feature_at-with_other _ _ _ n differs)
