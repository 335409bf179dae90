use Rattle.std.proofs.Common.{leb, rules}
use Rattle.std.proofs.lemmas.List.Sorted.{IsPartitionPoint-from_clause, IsPartitionedBy-leb}
use Rattle.pm_directory.proofs.Ascending.{ids_rise, front_passes}
use Rattle.pm_directory.proofs.lookup.count_up_to.Goals as goal

pub returns-clause-front : goal.returns-clause-front
returns-clause-front c =
    let parted = IsPartitionedBy-leb (λ e. e.id) c.args.entries.now c.args.id (ids_rise 0 c.args.entries.now c.requires) in
    let point = IsPartitionPoint-from_clause (λ e. leb e.id c.args.id) c.args.entries.now c.partition_point.result c.partition_point.ensures.partitioned parted
    (λ a r q k. search rules) in
    front_passes (λ e. leb e.id c.args.id) c.args.entries.now c.partition_point.result point
