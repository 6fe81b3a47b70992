use Rattle.std.proofs.Common.{take}
use Rattle.text_tables.specs.RowsBelow.{AreBelow}
use Rattle.traces.specs.OrderSteps.{IsRowOfOrderStep, titles_in}
use Rattle.traces.proofs.order_steps.all_rows.Given as goal

abbrev pub invariant-loop-step : goal.invariant-loop-step
invariant-loop-step l = AreBelow (IsRowOfOrderStep l.form l.clock) (titles_in l.form) (take l.step-index l.steps) l.rows.items
