use Rattle.std.proofs.Common.{arith}
use Rattle.box_index.proofs.Joined.{all_of_joined}
use Rattle.box_index.proofs.blocks.join_next.Goals as goal

pub returns-clause-entries : goal.returns-clause-entries
returns-clause-entries c =
    all_of_joined c.args.blocks.now.items c.remove-next.new.self.items c.args.at c.index_mut.result.now c.remove-next.result c.append.new.self
    (omega arith) (omega arith) c.remove-next.ensures.by_index.2 c.index_mut.ensures.value c.remove-next.ensures.value c.append.ensures
