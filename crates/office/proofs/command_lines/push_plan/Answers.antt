use Rattle.dispatch_sheet.proofs.InRange.{table_fits}
use Rattle.office.proofs.command_lines.push_plan.Goals as goal

pub push_planned_reply-requires-clause-fits : goal.push_planned_reply-requires-clause-fits
push_planned_reply-requires-clause-fits c =
    let begun = c.args.begun.now in
    let table = c.cells-cells.ensures.begun.table in
    rw (c.snap.ensures, c.cells-cells.ensures.value) (table_fits begun.snap.problem begun.table table.wagons table.penalties table.lacks)
