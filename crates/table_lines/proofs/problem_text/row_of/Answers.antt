use Rattle.std.proofs.Common.{◌≡◌, ◌∙◌, ap, arith, map}
use Rattle.std.specs.List.{range_with_len}
use Rattle.std.proofs.lemmas.List.FromFn.{map-range_with_len_more}
use Rattle.cost_table.specs.Table.{cost_at, order_count}
use Rattle.table_lines.proofs.problem_text.row_of.Goals as goal

pub loop-j-preserved : goal.loop-j-preserved
loop-j-preserved c =
    let more = map-range_with_len_more (cost_at c.args.cells.now c.args.i) 0 c.loop-j.j c.loop-j.j (omega arith) in
    grind (arith, more, c.loop-j.invariant)

pub returns : goal.returns
returns c =
    let t = c.args.cells.now in
    let all : c.loop-j.j ≡ order_count t = omega (arith, c.orders-orders.ensures.count, c.loop-j-test.false) in
    c.loop-j.invariant ∙ ap (λ n. map (cost_at t c.args.i) (range_with_len 0 n)) all
