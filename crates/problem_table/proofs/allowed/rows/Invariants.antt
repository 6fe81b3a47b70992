use Rattle.std.proofs.Common.{◌≡◌, []}
use Rattle.problem_table.specs.inner.Making.{AreMade}
use Rattle.problem_table.proofs.allowed.rows.Given as goal

-- The rows of the wagons so far, none of which is shared.
abbrev pub invariant-loop-k : goal.invariant-loop-k
invariant-loop-k l = record {
  made : AreMade l.tables l.problem l.k l.making;
  own : l.making.rows.shared.value ≡ [];
}
