use Rattle.std.proofs.Common.{◌≡◌, drop}
use Rattle.price_checker.specs.NamedPairs.{positions_of}
use Rattle.price_checker.proofs.Fronts.{with_front}
use Rattle.price_checker.proofs.positions.positions_of.Given as goal

-- what is found of the rest, behind what was found, is what is found of all
abbrev pub invariant-loop-number : goal.invariant-loop-number
invariant-loop-number g l = let names = g.N.PairNames.names l.names in with_front l.positions.items (positions_of names (drop l.number-index l.pairs)) ≡ positions_of names l.pairs
