use Rattle.std.proofs.Common.{◌≡◌, ◌∷◌, map, take}
use Rattle.plan_table.specs.Cells.{shortfall_row, shortfall_titles}
use Rattle.plan_table.proofs.table.shortfall_rows.Given as goal

abbrev pub invariant-loop-shortfall : goal.invariant-loop-shortfall
invariant-loop-shortfall l = l.rows.items ≡ shortfall_titles ∷ map shortfall_row (take l.shortfall-index l.shortfalls)
