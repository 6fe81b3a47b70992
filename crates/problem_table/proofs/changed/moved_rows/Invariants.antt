use Rattle.problem_table.specs.inner.Making.{AreMade}
use Rattle.problem_table.specs.inner.Moved.{AreCome, AreMoved, AreSteady, HaveBlock}
use Rattle.problem_table.proofs.changed.moved_rows.Given as goal

-- The rows of the wagons so far, beside the earlier block or with none, and where the earlier orders stand.
abbrev pub invariant-loop-k : goal.invariant-loop-k
invariant-loop-k l = record {
  made : AreMade l.tables l.problem l.k l.making;
  block : HaveBlock l.moving.shares l.rows l.making.rows;
  moved : AreMoved l.earlier.orders l.problem.orders l.moving.moved.positions.items l.moving.moved.kept;
  steady : AreSteady l.moving.moved.positions.items l.moving.moved.kept l.moving.moved.steady;
  came : AreCome l.tables l.problem.orders l.moving;
}
