use Rattle.std.proofs.Common.{◌∙◌, ◌++◌, ap, sym, append_assoc, string_bytes}
use Rattle.std.specs.List.{flat_map, range_with_len}
use Rattle.text_tables.proofs.Columns.{flat_map-range_more}
use Rattle.text_tables.specs.Aligned.{column_text}
use Rattle.text_tables.proofs.aligned.push_row.Goals as goal

pub loop-k-preserved : goal.loop-k-preserved
loop-k-preserved c =
    let text = column_text c.args.sides.now c.args.rows.now c.args.row.now in
    let k = c.loop-k.k in
    let first = string_bytes c.args.text.now in
    c.in_ok-push_column.ensures {u = tt} ∙ ap (λ t. t ++ text k) c.loop-k.invariant ∙ append_assoc first (flat_map text (range_with_len 0 k)) (text k) ∙ ap (λ t. first ++ t) (sym (flat_map-range_more text k))
