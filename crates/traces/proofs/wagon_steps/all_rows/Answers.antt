use Rattle.std.proofs.Common.{arith}
use Rattle.text_tables.proofs.RowsBelow.{AreBelow-more}
use Rattle.traces.specs.WagonSteps.{IsRowOfWagonStep, titles_in}
use Rattle.traces.proofs.wagon_steps.all_rows.Goals as goal

pub loop-step-preserved : goal.loop-step-preserved
loop-step-preserved c =
    AreBelow-more (IsRowOfWagonStep c.args.form c.args.places.now c.args.clock.now) (titles_in c.args.form) c.args.steps.now c.loop-step.rows.items c.push-in-loop-step.new.self.items c.loop-step.step-index c.step-item.result c.step-item.result c.in_ok-step_row.field-0
    c.loop-step.invariant (omega arith) c.step-item.is c.in_ok-step_row.ensures c.in_ok-push-2.ensures.items
