use Rattle.std.proofs.Common.{◌≡◌, ◌≤◌, ◌*◌}
use Rattle.std.specs.Prelude.{slice_index}
use Rattle.cost_table.specs.Table.{lack_at}
use Rattle.cost_table.specs.Plan.{sum_below}
use Rattle.price_checker.proofs.checker.paid_by_orders.Given as goal

abbrev pub invariant-loop-j : goal.invariant-loop-j
invariant-loop-j l = (l.total ≡ sum_below l.j (λ j. lack_at l.cells j * slice_index l.v j)) × (l.total ≤ l.j * 368_934_881_474_191_032_320)
