use Rattle.std.proofs.Common.{◌≡◌, take}
use Rattle.fleet_rows.proofs.order_rows.OrderRows.copy.Given as goal

-- the rows so far are the first ones
abbrev pub invariant-loop-row : goal.invariant-loop-row
invariant-loop-row l = l.copy ≡ take l.row-index l.row-items
