use Rattle.std.proofs.Common.{rules}
use Rattle.std.proofs.lemmas.List.Sorted.{IsPartitionPoint-from_clause}
use Rattle.fleet_rows.specs.inner.EmptyList.{is_before}
use Rattle.fleet_rows.proofs.EmptyList.{parted}
use Rattle.fleet_rows.proofs.empty_wagons.count_before.Goals as goal

pub returns-clause-parts : goal.returns-clause-parts
returns-clause-parts c =
    IsPartitionPoint-from_clause (is_before c.args.rows.now c.args.stand.now c.args.index) c.args.indexes.now c.partition_point.result c.partition_point.ensures.partitioned
    (parted c.args.rows.now c.args.stand.now c.args.index c.args.indexes.now c.requires) (λ a r f' called. search rules)
