use Rattle.std.proofs.Common.{◌≡◌, take}
use Rattle.office_map.proofs.map.network_places.Given as goal

abbrev pub invariant-loop-k : goal.invariant-loop-k
invariant-loop-k l = l.places.items ≡ take l.k l.network.places
