use Rattle.std.proofs.Common.{sym, arith}
use Rattle.std.proofs.lemmas.List.Elements.{All-nil}
use Rattle.number_map.proofs.Entries.{ascends_none}
use Rattle.feature_store.proofs.DigestLemmas.{digest_none}
use Rattle.feature_store.proofs.Texts.{none_takes}
use Rattle.feature_store.proofs.store.Store.without_index.Goals as goal

pub invariant_of-result : goal.invariant_of-result
invariant_of-result c =
    rw c.new.ensures record {
      is_map = record { ascending = ascends_none; edits = All-nil _; short = omega (arith, none_takes) };
      own = All-nil _;
      indexed = tt;
      digest = sym digest_none;
    }
