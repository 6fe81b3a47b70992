use Rattle.std.proofs.Common.{◌≡◌, ◌++◌, map, take}
use Rattle.plan_table.specs.Cells.{shortfall_fields}
use Rattle.plan_table.proofs.spreadsheet.push_shortfalls.Given as goal

abbrev pub invariant-loop-shortfall : goal.invariant-loop-shortfall
invariant-loop-shortfall l = l.rows.items ≡ l.initial.rows.items ++ map (shortfall_fields l.places) (take l.shortfall-index l.shortfalls)
