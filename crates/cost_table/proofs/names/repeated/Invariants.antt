use Rattle.std.proofs.Common.{◌≡◌, [], take, drop}
use Rattle.cost_table.specs.DistinctNames.{repeated_from}
use Rattle.cost_table.proofs.names.repeated.Given as goal

abbrev pub invariant-loop-k : goal.invariant-loop-k
invariant-loop-k g l = repeated_from g.T.PartialEq.eq (take l.k l.values) (drop l.k l.values) ≡ repeated_from g.T.PartialEq.eq [] l.values
