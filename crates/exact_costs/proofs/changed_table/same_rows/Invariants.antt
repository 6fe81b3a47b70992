use Rattle.std.proofs.Common.{◌≡◌, take}
use Rattle.cost_table.specs.SharedRows.{HasPlaces, rows_in}
use Rattle.exact_costs.proofs.changed_table.same_rows.Given as goal

abbrev pub invariant-loop-k : goal.invariant-loop-k
invariant-loop-k l = record {
  shared : l.same.shared.value ≡ l.rows.shared.value;
  rows : rows_in l.same ≡ take l.k (rows_in l.rows);
  placed : HasPlaces l.same;
}
