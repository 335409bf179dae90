use Rattle.std.proofs.Common.{◌≡◌, ◌∷◌, sym, ap, subst, ◌∙◌}
use Rattle.std.specs.Option.{option_copied, option_map}
use Rattle.std.specs.List.Sorted.{IsPermutation}
use Rattle.box_index.specs.declared.entry.IndexEntry.{IndexEntry}
use Rattle.feature_store.specs.Indexed.{index_entry}
use Rattle.feature_store.specs.Inside.{stored_data}
use Rattle.feature_store.proofs.Kept.{put_first, put_over}
use Rattle.feature_store.proofs.indexed.set_entry.Goals as goal

pub returns-in-Some-clause-indexed : goal.returns-in-Some-clause-indexed
returns-in-Some-clause-indexed c m id f is up found indexed =
    let v = stored_data c.in-Some.stored.now in
    let old : c.index_entry-old.result ≡ index_entry (id, v) =
    c.index_entry-old.ensures ∙ ap (λ g. index_entry (c.args.entry.id, g)) c.view.ensures ∙ ap (λ (e : IndexEntry). index_entry (e.id, v)) is in
    let es = c.args.index.now.entries in
    let more = c.exchange.new.index.entries in
    put_over m id v f es more up (sym found ∙ ap (λ o. option_map stored_data (option_copied o)) c.in-Some.is) indexed
    (λ rest parted. subst (λ e. IsPermutation (e ∷ rest) more) is
    (c.exchange.ensures.entries rest (subst (λ e. IsPermutation es (e ∷ rest)) (sym old) parted)))

pub returns-in-None-clause-indexed : goal.returns-in-None-clause-indexed
returns-in-None-clause-indexed c m id f is up found indexed =
    put_first m id f c.args.index.now.entries c.insert.new.self.entries up (sym found ∙ ap (λ o. option_map stored_data (option_copied o)) c.in-None.is) indexed
    (subst (λ e. IsPermutation (e ∷ c.args.index.now.entries) c.insert.new.self.entries) is c.insert.ensures.entries)
