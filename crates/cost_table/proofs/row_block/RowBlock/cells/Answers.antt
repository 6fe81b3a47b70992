use Rattle.std.proofs.Common.{◌≡◌, ◌∙◌, ap, length, rules, sym}
use Rattle.cost_table.specs.SharedRows.{cell_count}
use Rattle.cost_table.specs.RowBlocks.{rows_of}
use Rattle.cost_table.proofs.RowLemmas.{cells_held}
use Rattle.cost_table.proofs.row_block.RowBlock.cells.Goals as goal

pub returns : goal.returns
returns c =
    let entries = c.self.inside.entries.items in
    let ends = c.self.inside.ends.items in
    let count : c.len.result ≡ length entries = search rules in
    count ∙ (sym (cells_held entries ends (rows_of entries 0 ends) c.self.invariant) ∙ ap cell_count c.self.view_is)
