use Rattle.std.proofs.Common.{◌≡◌, None, subst, sym, ◌∙◌}
use Rattle.std.specs.BTreeMap.{is_at}
use Rattle.std.specs.Map.{lookup}
use Rattle.std.specs.Ordering.{nat_cmp}
use Rattle.feature_store.specs.Moments.{AreKept, MomentView}
use Rattle.feature_store.specs.Store.{feature_at}
use Rattle.feature_store.proofs.Maps.{lookup_set_other}
use Rattle.feature_store.proofs.Moments.{are_kept, had_kept, is_found, none_found}
use Rattle.feature_store.proofs.moment.Moment.keep.Goals as goal

pub returns-clause-here : goal.returns-clause-here
returns-clause-here c m k there is =
    let n = c.args.number in
    let es = c.self.inside.kept.entries in
    let none : lookup (is_at (nat_cmp n)) es ≡ None =
    none_found _ (is_found c.get.result _ c.is_some.result c.get.ensures c.is_some.ensures ∙ c.if-is_some.false) in
    rw (← c.self.view_is, c.insert-none.ensures.entries, c.room_for.ensures.entries)
    (had_kept es n c.args.had (feature_at k n) (feature_at m n) none is)

pub returns-clause-others : goal.returns-clause-others
returns-clause-others c n there differs =
    rw (← c.self.view_is, c.insert-none.ensures.entries, c.room_for.ensures.entries)
    (lookup_set_other c.self.inside.kept.entries c.args.number c.args.had n differs)

pub returns-clause-kept : goal.returns-clause-kept
returns-clause-kept c own kept =
    rw (c.insert-none.ensures.entries, c.room_for.ensures.entries)
    (are_kept c.self.inside.kept.entries c.args.number c.args.had own (subst (λ (t : MomentView). AreKept t.kept) (sym c.self.view_is) kept))
