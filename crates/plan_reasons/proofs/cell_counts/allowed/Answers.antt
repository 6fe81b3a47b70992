use Rattle.std.proofs.Common.{◌≡◌, replicate, rules}
use Rattle.std.proofs.lemmas.Result.{IfOk-weaker}
use Rattle.cost_table.specs.Table.{order_count}
use Rattle.cost_table.specs.TableRows.{all_rows}
use Rattle.plan_reasons.specs.Laws.{cells_of_order}
use Rattle.plan_reasons.specs.inner.Tallied.{AreNumbers, cells_below}
use Rattle.plan_reasons.proofs.CellCounts.{all_count}
use Rattle.plan_reasons.proofs.cell_counts.allowed.Goals as goal

pub returns : goal.returns
returns c =
    let t = c.args.cells.now in
    let limits = c.deref.result.now in
    let most : limits ≡ replicate (order_count t) 18_446_744_073_709_551_615 = search rules in
    IfOk-weaker c.cells_below.result (λ counts. AreNumbers (order_count t) (cells_below (all_rows t) limits) counts.items) (λ counts. AreNumbers (order_count t) (cells_of_order t) counts.items) (λ counts are. all_count t c.orders.ensures.table limits counts.items are most) c.cells_below.ensures
