use Rattle.std.proofs.Common.{vec_capacity}
use Rattle.fleet_rows.proofs.EmptyRows.{AreListedBefore}
use Rattle.fleet_rows.proofs.empty_wagons.empty_list.Given as goal

abbrev pub invariant-loop-index : goal.invariant-loop-index
invariant-loop-index l = AreListedBefore l.rows l.index l.empty.items (vec_capacity l.empty)
