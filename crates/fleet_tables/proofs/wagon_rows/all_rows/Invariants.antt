use Rattle.std.proofs.Common.{take}
use Rattle.fleet_tables.specs.WagonRows.{IsRowOfWagon, titles_in}
use Rattle.text_tables.specs.RowsBelow.{AreBelow}
use Rattle.fleet_tables.proofs.wagon_rows.all_rows.Given as goal

abbrev pub invariant-loop-wagon : goal.invariant-loop-wagon
invariant-loop-wagon l = AreBelow (IsRowOfWagon l.form l.places l.clock) (titles_in l.form) (take l.wagon-index l.wagons) l.rows.items
