use Rattle.std.proofs.Common.{map, refl, sym, ◌∙◌}
use Rattle.std.proofs.lemmas.Bool.{false≢true}
use Rattle.feature_model.specs.Data.{change_data}
use Rattle.edit_json.specs.Asked.{asked_data}
use Rattle.edit_json.specs.Batches.{asks_json}
use Rattle.edit_json.proofs.BatchLaws.{few-refused, memory-refused, twice-refused, change-refused, batch-read}
use Rattle.edit_json.proofs.batches.changes_of.Goals as goal

pub returns-then-not-are_enough-clause-refused : goal.returns-then-not-are_enough-clause-refused
returns-then-not-are_enough-clause-refused c = few-refused (asks_json (map asked_data c.args.all.now)) c.args.all.now refl c.requires
    (λ enough. false≢true (sym c.if-not-are_enough.true ∙ c.are_enough.ensures.1 enough))

pub returns-in-Err-clause-refused : goal.returns-in-Err-clause-refused
returns-in-Err-clause-refused c =
    rw c.in-Err.ensures.memory (memory-refused (asks_json (map asked_data c.args.all.now)) c.args.all.now refl c.requires
    (c.are_enough.ensures.0 c.if-not-are_enough.false))

pub returns-then-not-differ-clause-refused : goal.returns-then-not-differ-clause-refused
returns-then-not-differ-clause-refused c =
    twice-refused (asks_json (map asked_data c.args.all.now)) c.args.all.now refl c.requires
    (c.are_enough.ensures.0 c.if-not-are_enough.false) c.in-Ok.numbers.items c.in-Ok.ensures.numbers
    (λ all. false≢true (sym c.if-not-differ.true ∙ c.differ.ensures.1 (rw c.deref.ensures.value all)))

pub returns-in-Ok-read_changes-clause-found : goal.returns-in-Ok-read_changes-clause-found
returns-in-Ok-read_changes-clause-found c =
    batch-read (asks_json (map asked_data c.args.all.now)) c.args.all.now refl c.requires
    (c.are_enough.ensures.0 c.if-not-are_enough.false) c.in-Ok.numbers.items c.in-Ok.ensures.numbers
    (rw c.deref.ensures.value at (c.differ.ensures.0 c.if-not-differ.false)) (map change_data c.in-Ok-read_changes.changes.items)
    c.in-Ok-read_changes.ensures.asked c.in-Ok-read_changes.ensures.are

pub returns-clause-refused : goal.returns-clause-refused
returns-clause-refused c =
    change-refused (asks_json (map asked_data c.args.all.now)) c.args.all.now refl c.requires
    (c.are_enough.ensures.0 c.if-not-are_enough.false) c.in-Ok.numbers.items c.in-Ok.ensures.numbers
    (rw c.deref.ensures.value at (c.differ.ensures.0 c.if-not-differ.false)) c.in-Err-read_changes.fault c.in-Err-read_changes.ensures.fault
