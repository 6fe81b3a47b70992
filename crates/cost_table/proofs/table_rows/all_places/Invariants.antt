use Rattle.std.proofs.Common.{◌≡◌, [], take}
use Rattle.cost_table.specs.SharedRows.{ArePlaces, rows_among}
use Rattle.cost_table.proofs.table_rows.all_places.Given as goal

abbrev pub invariant-loop-k : goal.invariant-loop-k
invariant-loop-k l = record {
  rows : rows_among l.block [] l.places.items ≡ take l.k l.block;
  placed : ArePlaces [] l.places.items;
}
