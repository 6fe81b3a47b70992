use Rattle.std.proofs.Common.{◌-◌}
use Rattle.assignment.specs.inner.State.{kept}
use Rattle.assignment.specs.inner.Search.{IsWalking}
use Rattle.assignment.proofs.search.Search.open_wagon.Given as goal

abbrev pub invariant-wagons : goal.invariant-wagons
invariant-wagons l = IsWalking (kept l.state) l.self l.group l.wagon

abbrev pub decreases-wagons : goal.decreases-wagons
decreases-wagons l = 4294967295 - l.wagon
