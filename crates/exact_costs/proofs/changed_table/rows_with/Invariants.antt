use Rattle.std.proofs.Common.{◌≡◌, take}
use Rattle.std.specs.Prelude.{slice_set}
use Rattle.cost_table.specs.SharedRows.{HasPlaces, rows_in}
use Rattle.exact_costs.proofs.changed_table.rows_with.Given as goal

abbrev pub invariant-loop-k : goal.invariant-loop-k
invariant-loop-k l = record {
  shared : l.changed.shared.value ≡ l.rows.shared.value;
  rows : rows_in l.changed ≡ take l.k (slice_set (rows_in l.rows) l.i l.row);
  placed : HasPlaces l.changed;
}
