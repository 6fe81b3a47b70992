use Rattle.std.proofs.Common.{◌≡◌, take}
use Rattle.wagons_program.proofs.opening.make_tables.Given as goal

-- the tables so far are those of the first networks
abbrev pub invariant-loop-network : goal.invariant-loop-network
invariant-loop-network g l = l.tables.items ≡ take l.network-index l.networks
