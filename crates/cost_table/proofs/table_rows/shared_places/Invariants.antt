use Rattle.std.proofs.Common.{◌≡◌, [], take}
use Rattle.cost_table.specs.SharedRows.{ArePlaces, rows_among}
use Rattle.cost_table.proofs.table_rows.shared_places.Given as goal

abbrev pub invariant-loop-place : goal.invariant-loop-place
invariant-loop-place l = record {
  rows : rows_among l.block [] l.shared.items ≡ rows_among [] l.block (take l.place-index l.places);
  placed : ArePlaces [] l.shared.items;
}
