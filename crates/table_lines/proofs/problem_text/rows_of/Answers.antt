use Rattle.std.proofs.Common.{◌≡◌, map, ◌∙◌, arith}
use Rattle.std.proofs.lemmas.List.{take_all}
use Rattle.table_lines.proofs.RowsHeld.{costs_within, one_more_row}
use Rattle.table_lines.proofs.problem_text.rows_of.Goals as goal

pub loop-i-preserved : goal.loop-i-preserved
loop-i-preserved c =
    let t = c.args.cells.now in
    one_more_row t c.loop-i.rows.items c.push.new.self.items c.in_ok-row_of.field-0 c.loop-i.i c.wagons-wagons.ensures.table (omega arith) c.loop-i.invariant c.in_ok-row_of.ensures c.in_ok-push.ensures.items

pub returns-clause-limits : goal.returns-clause-limits
returns-clause-limits c =
    let t = c.args.cells.now in
    let whole : map (λ row. row.items) c.loop-i.rows.items ≡ t.costs = c.loop-i.invariant ∙ take_all c.loop-i.i t.costs (omega arith) in
    costs_within t c.loop-i.rows.items c.wagons-wagons.ensures.table whole
