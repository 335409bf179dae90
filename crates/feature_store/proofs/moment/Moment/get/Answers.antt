use Rattle.std.proofs.Common.{◌≡◌, Bor, Option, None, sym, ap, ◌∙◌}
use Rattle.std.specs.BTreeMap.{is_at}
use Rattle.std.specs.Map.{lookup}
use Rattle.std.specs.Option.{option_map}
use Rattle.std.specs.Ordering.{nat_cmp}
use Rattle.feature_store.specs.Inside.{Stored, stored_data, entries_data}
use Rattle.feature_store.specs.Moments.{MomentView, had_by}
use Rattle.feature_store.specs.Store.{feature_at}
use Rattle.feature_store.proofs.Entries.{feature_found}
use Rattle.feature_store.proofs.moment.Moment.get.Goals as goal

pub returns-in-None : goal.returns-in-None
returns-in-None c =
    let n = c.args.number in
    let es = c.args.features.now.entries in
    let none : lookup (is_at (nat_cmp n)) c.args.self.now.kept ≡ None =
    ap (λ (t : MomentView). lookup (is_at (nat_cmp n)) t.kept) (sym c.self.view_is) ∙ sym c.get.ensures
    ∙ ap (option_map (λ (v : Bor (Option Stored)). v.now)) c.in-None.is in
    ap (option_map stored_data) c.get-in-None.ensures ∙ sym (feature_found es n) ∙ ap (λ o. had_by o (feature_at (entries_data es) n)) (sym none)
    ∙ sym (c.requires.as_of.each n c.requires.there)
