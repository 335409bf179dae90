use Rattle.std.proofs.Common.{rules, arith}
use Rattle.std.specs.Prelude.{nat_le}
use Rattle.std.proofs.lemmas.Fn.{always_returns_same}
use Rattle.std.proofs.lemmas.List.Sorted.{IsPartitionedBy-leb}
use Rattle.number_map.proofs.Firsts.{last_up_to}
use Rattle.number_map.proofs.blocks.home_of.Goals as goal

-- the closure tells whether a number is at most this one
pub returns : goal.returns
returns c =
    let facts = c.partition_point.ensures in
    let ns = c.args.firsts.now in
    let parted = facts.partitioned (λ first. nat_le first c.args.number) (always_returns_same _ _ _ (λ a r h called. (search rules, search rules)))
    (IsPartitionedBy-leb (λ first. first) ns c.args.number c.requires) in
    last_up_to ns c.args.number c.partition_point.result c.saturating_sub.result facts.bound parted (omega (arith, c.saturating_sub.ensures))
