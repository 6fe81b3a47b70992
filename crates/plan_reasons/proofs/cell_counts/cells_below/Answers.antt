use Rattle.std.proofs.Common.{◌+◌, ◌≡◌, ◌<◌, ℕ, List, [], length, get_or, take, ap, subst, sym, arith}
use Rattle.std.proofs.lemmas.Grind.{get_or_default_zero}
use Rattle.std.proofs.lemmas.List.{take_all}
use Rattle.cost_table.specs.Table.{order_count}
use Rattle.cost_table.specs.TableRows.{all_rows, row_at}
use Rattle.cost_table.proofs.TableRowLemmas.{length-all_rows, row_of_all, rows_are}
use Rattle.plan_reasons.specs.inner.Tallied.{AreMore, AreNumbers, below_in_row, cells_below}
use Rattle.plan_reasons.proofs.CellCounts.{few_below, row_more, written_whole}
use Rattle.plan_reasons.proofs.cell_counts.cells_below.Goals as goal

pub count_row-requires-clause-limit : goal.count_row-requires-clause-limit
count_row-requires-clause-limit c = λ k d lt.
    let t = c.args.cells.now in
    let i = c.loop-i.i in
    let here : k < order_count t = omega (arith, lt, c.deref_mut.ensures.len, c.loop-i.invariant.0, ap length c.deref_mut.ensures.value) in
    let is = c.loop-i.invariant.1 k here in
    let few = few_below (order_count t) (all_rows t) i c.args.limits.now k (rows_are t c.orders.ensures.table) (omega (arith, c.loop-i-test.true, c.wagons-i-end.ensures.count, length-all_rows t)) in
    let same = ap (λ (xs : List ℕ). get_or xs k d) c.deref_mut.ensures.value in
    let read = get_or_default_zero c.loop-i.counts.items k d (omega (arith, here, c.loop-i.invariant.0)) in
    omega (arith, same, read, is, few, c.loop-i-test.true, c.wagons-i-end.ensures.count, c.orders.ensures.table.wagons)

pub loop-i-preserved : goal.loop-i-preserved
loop-i-preserved c =
    let t = c.args.cells.now in
    let i = c.loop-i.i in
    let limits = c.args.limits.now in
    let was = c.loop-i.counts.items in
    let new = c.count_row.new.counts in
    let long : length new ≡ length was = omega (arith, c.count_row.ensures.0, ap length c.deref_mut.ensures.value) in
    let more : AreMore (below_in_row (row_at t i) limits) was new = subst (λ (xs : List ℕ). AreMore (below_in_row (row_at t i) limits) xs new) c.deref_mut.ensures.value (subst (λ (row : List (ℕ × ℕ)). AreMore (below_in_row row limits) c.deref_mut.result.now new) c.row.ensures.row c.count_row.ensures) in
    subst (AreNumbers (order_count t) (cells_below (take (i + 1) (all_rows t)) limits)) (sym (written_whole new was c.loop-i.counts.len long (omega (arith, c.deref_mut.ensures.len, ap length c.deref_mut.ensures.value)))) (
      omega (arith, long, c.loop-i.invariant.0),
      λ j less. omega (arith, more.1 j (omega (arith, less, c.loop-i.invariant.0)), c.loop-i.invariant.1 j less, row_more (all_rows t) i (row_at t i) [] limits j (omega (arith, c.loop-i-test.true, c.wagons-i-end.ensures.count, length-all_rows t)) (sym (row_of_all t i))),
    )

pub returns : goal.returns
returns c =
    let t = c.args.cells.now in
    let all = take_all c.loop-i.i (all_rows t) (omega (arith, c.loop-i-test.false, c.wagons-i-end.ensures.count, length-all_rows t)) in
    subst (λ (rows : List (List (ℕ × ℕ))). AreNumbers (order_count t) (cells_below rows c.args.limits.now) c.loop-i.counts.items) all c.loop-i.invariant
