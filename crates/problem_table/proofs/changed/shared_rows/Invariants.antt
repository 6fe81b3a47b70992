use Rattle.std.proofs.Common.{◌≡◌}
use Rattle.problem_table.specs.inner.Making.{AreMade}
use Rattle.problem_table.proofs.changed.shared_rows.Given as goal

-- The rows of the wagons so far, beside the earlier table's block.
abbrev pub invariant-loop-k : goal.invariant-loop-k
invariant-loop-k l = record {
  made : AreMade l.tables l.problem l.k l.making;
  shared : l.making.rows.shared.value ≡ l.rows.shared.value;
}
