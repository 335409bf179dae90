use Rattle.std.proofs.Common.{sym, ap, ◌∙◌}
use Rattle.std.specs.Option.{option_copied, option_map}
use Rattle.feature_store.specs.Indexed.{index_entry}
use Rattle.feature_store.specs.Inside.{stored_data}
use Rattle.feature_store.proofs.Kept.{entry_gone, nothing_taken}
use Rattle.feature_store.proofs.indexed.take_entry.Goals as goal

pub returns-in-Some-clause-indexed : goal.returns-in-Some-clause-indexed
returns-in-Some-clause-indexed c m is indexed =
    let facts = c.remove.ensures in
    entry_gone m c.args.id (stored_data c.in-Some.stored.now) c.args.index.now.entries c.remove.new.self.entries c.index_entry-entry.result c.remove.result
    (c.index_entry-entry.ensures ∙ ap (λ f. index_entry (c.args.id, f)) c.view.ensures) facts.found.1 facts.taken
    (sym is ∙ ap (λ o. option_map stored_data (option_copied o)) c.in-Some.is) indexed

pub returns-in-None-clause-indexed : goal.returns-in-None-clause-indexed
returns-in-None-clause-indexed c m is indexed =
    nothing_taken m c.args.id c.args.index.now.entries (sym is ∙ ap (λ o. option_map stored_data (option_copied o)) c.in-None.is) indexed
