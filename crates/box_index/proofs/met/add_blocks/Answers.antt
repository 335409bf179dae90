use Rattle.std.proofs.Common.{ℕ, ◌+◌, ◌++◌, List, length, take, Option, None, subst, sym, ap, ◌∙◌, arith}
use Rattle.box_index.specs.Blocks.{joined}
use Rattle.box_index.specs.declared.entry.IndexEntry.{IndexEntry}
use Rattle.box_index.specs.Met.{AreAdded}
use Rattle.box_index.proofs.Joined.{all_of_more}
use Rattle.box_index.proofs.Added.{added_both, too_many}
use Rattle.box_index.proofs.met.add_blocks.Goals as goal

pub returns-in-None : goal.returns-in-None
returns-in-None c =
    let bs = c.args.blocks.now in
    let i = c.loop-block.block-index in
    let bounds = c.args.bounds.now in
    let from = c.args.from in
    let block = c.block-item.result in
    let here : AreAdded bounds from block c.loop-block.rest c.loop-block.found.items c.add_block.new.found.items None =
    subst (λ (o : Option ℕ). AreAdded bounds from block c.loop-block.rest c.loop-block.found.items c.add_block.new.found.items o) c.in-None.is
    c.in_ok-fewer.ensures in
    let both = added_both bounds from (joined (take i bs)) block c.args.left c.loop-block.rest c.args.found.now.items c.loop-block.found.items
    c.add_block.new.found.items None c.loop-block.invariant here in
    let same = ap length (ap (λ (b : List IndexEntry). joined (take i bs) ++ b) c.block-item.is
    ∙ sym (all_of_more bs i c.block-item.result c.loop-block-test.true)) in
    too_many (i + 1) c.args.left bs (omega (arith, both, same))
