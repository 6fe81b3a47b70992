use Rattle.std.proofs.Common.{take}
use Rattle.movements.specs.inner.Listed.{AreMovements}
use Rattle.movements.proofs.listing.all_movements.Given as goal

abbrev pub invariant-loop-row : goal.invariant-loop-row
invariant-loop-row l = AreMovements l.tables l.at l.state.office.orders (take l.row-index l.row-items) l.movements.items
