use Rattle.std.proofs.Common.{length, sym, ap, subst, ◌∙◌, arith}
use Rattle.std.proofs.lemmas.List.Elements.{All-nil}
use Rattle.number_map.specs.Blocks.{joined, firsts_of, AreInOrder}
use Rattle.number_map.proofs.Entries.{ascends_none}
use Rattle.number_map.proofs.Filled.{IsFilled}
use Rattle.number_map.proofs.number_map.NumberMap.new.Goals as goal

-- no block, and no entry
pub invariant_of-result : goal.invariant_of-result
invariant_of-result g c =
    record {
      order = subst AreInOrder (sym c.new-2.ensures.items) (record { ascending = ascends_none; filled = All-nil IsFilled });
      firsts = c.new.ensures.items ∙ ap firsts_of (sym c.new-2.ensures.items);
      count = ap (λ bs. length (joined bs)) (sym c.new-2.ensures.items);
      spare = λ k d lt. absurd (omega (arith, lt, ap length c.new-3.ensures.items));
    }
