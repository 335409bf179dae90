use Rattle.std.proofs.Common.{sym, ap, ◌∙◌, arith}
use Rattle.std.specs.Option.{option_map}
use Rattle.feature_store.specs.Inside.{entry_data, entries_data}
use Rattle.feature_store.proofs.Entries.{first_found}
use Rattle.feature_store.proofs.Reading.{listed_next, listed_all, next_end}
use Rattle.feature_store.proofs.listing.Listing.list_next.Goals as goal

pub returns-in_default-clause-all : goal.returns-in_default-clause-all
returns-in_default-clause-all c = λ _.
    let es = c.args.features.now.entries in
    let n = c.args.self.now.next in
    c.requires.listed.numbers
    ∙ listed_all (entries_data es) n c.requires.is_map (first_found es n ∙ ap (option_map entry_data) (sym c.in_default.ensures))

pub overflow_add-self : goal.overflow_add-self
overflow_add-self c =
    let is = first_found c.args.features.now.entries c.args.self.now.next ∙ ap (option_map entry_data) (sym c.in-Some.ensures) in
    omega (arith, next_end (entries_data c.args.features.now.entries) c.args.self.now.next (entry_data c.in-Some.entry.now) c.requires.is_map is)

pub returns-clause-listed : goal.returns-clause-listed
returns-clause-listed c =
    let is = first_found c.args.features.now.entries c.args.self.now.next ∙ ap (option_map entry_data) (sym c.in-Some.ensures) in
    record {
      zoom = c.requires.listed.zoom;
      numbers = c.in_ok-push.ensures.items
          ∙ listed_next (entries_data c.args.features.now.entries) c.args.self.now.next (entry_data c.in-Some.entry.now) c.args.self.now.numbers.items
          c.requires.is_map is c.requires.listed.numbers;
    }
