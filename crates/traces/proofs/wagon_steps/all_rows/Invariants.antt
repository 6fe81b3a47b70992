use Rattle.std.proofs.Common.{take}
use Rattle.text_tables.specs.RowsBelow.{AreBelow}
use Rattle.traces.specs.WagonSteps.{IsRowOfWagonStep, titles_in}
use Rattle.traces.proofs.wagon_steps.all_rows.Given as goal

abbrev pub invariant-loop-step : goal.invariant-loop-step
invariant-loop-step l = AreBelow (IsRowOfWagonStep l.form l.places l.clock) (titles_in l.form) (take l.step-index l.steps) l.rows.items
