use Rattle.std.proofs.Common.{ltb, rules, arith}
use Rattle.std.proofs.lemmas.List.Sorted.{IsPartitionPoint-from_clause, IsPartitionedBy-ltb}
use Rattle.line_network.proofs.Lines.{AreStarts-push}
use Rattle.line_network.proofs.lines_by_origin.starts_of.Goals as goal

pub loop-place-preserved : goal.loop-place-preserved
loop-place-preserved c =
    let point = IsPartitionPoint-from_clause (λ l. ltb l.from c.loop-place.place-counter) _ _ c.partition_point.ensures.partitioned (IsPartitionedBy-ltb (λ l. l.from) _ c.loop-place.place-counter c.requires.sorted) (λ a r q k. search rules) in
    record {
      count = search rules;
      starts = rw c.in_ok-push.ensures.items (AreStarts-push _ _ c.loop-place.place-counter _ c.loop-place.invariant.starts (omega arith) c.partition_point.ensures.bound point);
    }
