-- How many free wagons pass each test, for each order of a problem.
use Rattle.std.specs.Prelude.{List}
use Rattle.std.specs.List.{AllZip}
use Rattle.line_network.specs.Network.{NetworkValue}
use Rattle.cost_table.specs.Problem.{ProblemValue}
use Rattle.plan_reasons.specs.declared.reasons.Counts.{Counts}
use Rattle.plan_reasons.specs.Reasons.{AreCounts}

-- as the orders are placed
abbrev pub AreOrderCounts : NetworkValue → ProblemValue → List Counts → Type 0
AreOrderCounts net problem counts = AllZip (λ wanted passed. AreCounts net problem.at problem.wagons wanted.order passed) problem.orders counts
