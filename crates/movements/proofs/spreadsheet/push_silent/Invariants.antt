use Rattle.std.proofs.Common.{take}
use Rattle.movements.specs.Fields.{AreSilentFields}
use Rattle.movements.specs.inner.Made.{AreRowsOf}
use Rattle.movements.proofs.spreadsheet.push_silent.Given as goal

abbrev pub invariant-loop-wagon : goal.invariant-loop-wagon
invariant-loop-wagon l = AreRowsOf (AreSilentFields l.places l.clock) (take l.wagon-index l.silent) l.initial.rows.items l.rows.items
