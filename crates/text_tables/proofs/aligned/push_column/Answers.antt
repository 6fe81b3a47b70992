use Rattle.std.proofs.Common.{◌≡◌, ◌∙◌, ◌+◌, ◌++◌, List, ℕ, subst, string_bytes}
use Rattle.std.specs.Prelude.{OnOk, length}
use Rattle.std.proofs.lemmas.Bool.{ne_eqb}
use Rattle.text_tables.proofs.Columns.{column_text-filled, width-at}
use Rattle.text_tables.specs.Aligned.{column_width}
use Rattle.text_tables.proofs.aligned.push_column.Goals as goal

pub returns : goal.returns
returns c =
    let rows = c.args.rows.now in
    let width = c.width_at.ensures ∙ width-at (column_width rows) c.args.widths.now (length c.args.sides.now) c.args.k 0 c.requires.widths c.requires.column in
    let same = column_text-filled c.args.sides.now rows c.args.row.now c.args.k c.side_at.result c.width_at.result c.cell-2.result.now (ne_eqb (c.args.k + 1) (length c.args.sides.now) c.if-k-sides.false) c.side_at.ensures width c.cell-2.ensures in
    subst (λ (t : List ℕ). OnOk c.push_filled.result (string_bytes c.push_filled.new.text ≡ string_bytes c.args.text.now ++ t)) same c.push_filled.ensures
