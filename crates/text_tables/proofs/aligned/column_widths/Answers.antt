use Rattle.std.proofs.Common.{◌∙◌, ◌∷◌, [], ◌++◌, ap, map, sym, arith}
use Rattle.std.proofs.lemmas.List.FromFn.{map-range_with_len_more}
use Rattle.std.specs.List.{range_with_len}
use Rattle.text_tables.specs.Aligned.{column_width}
use Rattle.text_tables.proofs.aligned.column_widths.Goals as goal

pub loop-k-preserved : goal.loop-k-preserved
loop-k-preserved c = c.in_ok-push.ensures.items ∙ ap (λ xs. xs ++ c.column_width.result ∷ []) c.loop-k.invariant ∙ ap (λ w. map (column_width c.args.rows.now) (range_with_len 0 c.loop-k.k) ++ w ∷ []) c.column_width.ensures ∙ sym (map-range_with_len_more (column_width c.args.rows.now) 0 c.loop-k.k c.loop-k.k (omega arith))
