use Rattle.std.proofs.Common.{[], sym, arith}
use Rattle.std.proofs.lemmas.List.Elements.{All-nil}
use Rattle.std.proofs.lemmas.List.Sorted.{IsPermutation-refl}
use Rattle.number_map.proofs.Entries.{ascends_none}
use Rattle.feature_store.proofs.DigestLemmas.{digest_none}
use Rattle.feature_store.proofs.Texts.{none_takes}
use Rattle.feature_store.proofs.store.Store.new.Goals as goal

pub invariant_of-result : goal.invariant_of-result
invariant_of-result c =
    rw (c.new.ensures, c.new-2.ensures) record {
      is_map = record { ascending = ascends_none; edits = All-nil _; short = omega (arith, none_takes) };
      own = All-nil _;
      indexed = IsPermutation-refl [];
      digest = sym digest_none;
    }
