use Rattle.std.proofs.Common.{◌≡◌, drop}
use Rattle.price_checker.specs.Faults.{not_allowed}
use Rattle.price_checker.proofs.checker.check_allowed.Given as goal

abbrev pub invariant-loop-pair : goal.invariant-loop-pair
invariant-loop-pair l = not_allowed l.cells (drop l.pair-index l.pairs) ≡ not_allowed l.cells l.pairs
