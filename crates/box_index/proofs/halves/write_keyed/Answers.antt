use Rattle.std.proofs.Common.{refl, arith, rules}
use Rattle.box_index.proofs.Keyed.{written_more}
use Rattle.box_index.proofs.halves.write_keyed.Goals as goal

pub loop-at-preserved : goal.loop-at-preserved
loop-at-preserved c =
    record {
      len = search rules;
      entries =
          written_more c.loop-at.keyed c.args.entries.now c.loop-at.at _ _ (omega (arith, c.loop-at.invariant.len, c.loop-at-test.true))
          c.loop-at-test.true refl c.loop-at.invariant.entries;
    }
