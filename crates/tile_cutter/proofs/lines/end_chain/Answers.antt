use Rattle.std.proofs.Common.{sym, ◌∙◌}
use Rattle.tile_cutter.proofs.PutLists.{chain_put, no_chain}
use Rattle.tile_cutter.proofs.Spelled.{some_length, none_length}
use Rattle.tile_cutter.proofs.lines.end_chain.Goals as goal

pub returns-in_ok-put_line-clause-put : goal.returns-in_ok-put_line-clause-put
returns-in_ok-put_line-clause-put c =
    let same = c.deref.ensures.value in
    chain_put c.args.out.now c.put_line.new.self c.args.chain.now.items
    (some_length c.args.chain.now (sym c.is_empty.ensures ∙ c.if-not-is_empty.true))
    (rw same at c.in_ok-put_line.ensures.bytes) (rw same at c.in_ok-put_line.ensures.at)

pub returns-else-not-is_empty-clause-put : goal.returns-else-not-is_empty-clause-put
returns-else-not-is_empty-clause-put c =
    no_chain c.args.out.now c.args.chain.now.items (none_length c.args.chain.now (sym c.is_empty.ensures ∙ c.if-not-is_empty.false))
