use Rattle.std.proofs.Common.{Ok, Err, rules, sym}
use Rattle.std.proofs.lemmas.List.Sorted.{answers_always}
use Rattle.cost_table.proofs.Search.{searched}
use Rattle.cost_table.proofs.table_cells.find_cost.Goals as goal

-- the closure gives a cell's order
pub returns-in-Ok : goal.returns-in-Ok
returns-in-Ok c =
    let by_order = c.in-Ok.ensures.position (λ cell. cell.0) (answers_always _ _ _ (λ f a r g called. search rules)) in
    rw c.from.ensures (sym (searched c.args.row.now c.args.order (Ok c.in-Ok.at) c.requires c.in-Ok.ensures.bound by_order))

pub returns-in-Err : goal.returns-in-Err
returns-in-Err c =
    let by_order = c.in-Err.ensures.position (λ cell. cell.0) (answers_always _ _ _ (λ f a r g called. search rules)) in
    sym (searched c.args.row.now c.args.order (Err c.in-Err.field-0) c.requires c.in-Err.ensures.bound by_order)
