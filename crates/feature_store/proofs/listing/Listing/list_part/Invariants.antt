use Rattle.std.proofs.Common.{◌≡◌, ◌+◌, length}
use Rattle.feature_store.specs.Inside.{entries_data}
use Rattle.feature_store.specs.Stages.{IsListed}
use Rattle.feature_store.proofs.listing.Listing.list_part.Given as goal

abbrev pub invariant-loop : goal.invariant-loop
invariant-loop l = record {
  listed : IsListed (entries_data l.features.entries) l.self;
  at : l.self.at ≡ l.initial.self.at;
  more : length l.self.numbers.items ≡ length l.initial.self.numbers.items + l.counter;
}
