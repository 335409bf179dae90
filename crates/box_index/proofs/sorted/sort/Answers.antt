use Rattle.std.proofs.Common.{rules, ◌∙◌}
use Rattle.box_index.proofs.Keyed.{sorted_all}
use Rattle.box_index.proofs.sorted.sort.Goals as goal

pub returns : goal.returns
returns c =
    sorted_all c.write_keyed.new.keyed _ c.sort_unstable_by_key.new.self.items c.args.entries.items _ (c.write_keyed.ensures ∙ c.deref.ensures.value)
    (search rules) c.sort_unstable_by_key.ensures.permutation
