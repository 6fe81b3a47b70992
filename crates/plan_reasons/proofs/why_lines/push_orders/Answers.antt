use Rattle.std.proofs.Common.{◌+◌, sym, string_bytes}
use Rattle.std.specs.List.{range_with_len}
use Rattle.reply_texts.proofs.Lines.{Adds-line, Adds-lines-along}
use Rattle.plan_reasons.specs.WhyText.{IsOrderLine}
use Rattle.plan_reasons.proofs.Columns.{range_next}
use Rattle.plan_reasons.proofs.why_lines.push_orders.Goals as goal

pub loop-j-preserved : goal.loop-j-preserved
loop-j-preserved c =
    let is_line = IsOrderLine c.args.style c.args.numbers c.args.planned.now.network c.args.planned.now.problem c.args.planned.now.priced in
    let j = c.loop-j.j in
    Adds-lines-along is_line _ (range_with_len 0 (j + 1)) _ _ (sym (range_next j)) (Adds-line is_line (range_with_len 0 j) j (string_bytes c.args.text.now) (string_bytes c.loop-j.text) _ c.loop-j.invariant (c.in_ok-push_order_line.ensures {u = tt}))
