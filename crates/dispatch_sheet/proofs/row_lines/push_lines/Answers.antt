use Rattle.std.proofs.Common.{◌+◌, take, sym, string_bytes, arith}
use Rattle.reply_texts.proofs.Lines.{Adds-line, Adds-lines-along}
use Rattle.reply_texts.proofs.Lines.{taken_more}
use Rattle.dispatch_sheet.proofs.row_lines.push_lines.Goals as goal

pub loop-row-preserved : goal.loop-row-preserved
loop-row-preserved g c =
    let is_line = g.T.Lined.is_line in
    let rows = c.args.rows.now in
    let i = c.loop-row.row-index in
    let row = c.row-item.result in
    Adds-lines-along is_line _ (take (i + 1) rows) _ _ (sym (taken_more rows i row row (omega arith) c.row-item.is)) (Adds-line is_line (take i rows) row (string_bytes c.args.text.now) (string_bytes c.loop-row.text) _ c.loop-row.invariant (c.in_ok-push_line.ensures {u = tt}))
