use Rattle.std.proofs.Common.{◌≡◌, take}
use Rattle.operating_db.specs.inner.EventParts.{unpromised_among}
use Rattle.operating_db.proofs.promises.end_promises.Given as goal

abbrev pub invariant-loop-number : goal.invariant-loop-number
invariant-loop-number l = l.wagons ≡ unpromised_among (take l.number-index l.numbers) l.initial.wagons
