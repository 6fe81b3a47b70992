use Rattle.std.proofs.Common.{◌∙◌, length, ap, arith}
use Rattle.std.proofs.lemmas.List.{take_all}
use Rattle.std.proofs.lemmas.Result.{IfOk-weaker}
use Rattle.cost_table.specs.Table.{order_count}
use Rattle.cost_table.specs.TableRows.{all_rows}
use Rattle.plan_reasons.specs.inner.Tallied.{AreNumbers, cells_below, cheaper_cells}
use Rattle.plan_reasons.proofs.CellCounts.{cheaper_count}
use Rattle.plan_reasons.proofs.cell_counts.cheaper.Goals as goal

pub cells_below-requires : goal.cells_below-requires
cells_below-requires c =
    let t = c.args.cells.now in
    let long = c.orders.ensures.table.penalty_count in
    let all = take_all c.loop-j.j t.penalties (omega (arith, long, c.loop-j-test.false, c.orders-j-end.ensures.count)) in
    ap length (c.deref.ensures.value ∙ c.loop-j.invariant ∙ all) ∙ long

pub returns : goal.returns
returns c =
    let t = c.args.cells.now in
    let limits = c.deref.result.now in
    let table = c.orders.ensures.table in
    let all = take_all c.loop-j.j t.penalties (omega (arith, table.penalty_count, c.loop-j-test.false, c.orders-j-end.ensures.count)) in
    IfOk-weaker c.cells_below.result (λ counts. AreNumbers (order_count t) (cells_below (all_rows t) limits) counts.items) (λ counts. AreNumbers (order_count t) (cheaper_cells t) counts.items) (λ counts are. cheaper_count t table limits counts.items are (c.deref.ensures.value ∙ c.loop-j.invariant ∙ all)) c.cells_below.ensures
