use Rattle.std.proofs.Common.{◌∙◌, ℕ, List, ap}
use Rattle.std.specs.Prelude.{slice_set}
use Rattle.exact_costs.proofs.ChangedTables.{with_row_made}
use Rattle.exact_costs.proofs.changed_table.with_row.Goals as goal

pub of_rows-requires : goal.of_rows-requires
of_rows-requires c = (with_row_made c.in_ok-rows.rows c.args.cells.now c.args.i c.args.row.now c.in_ok-penalties.penalties.items c.in_ok-lacks.lacks.items c.rows.ensures.table c.in_ok-rows.ensures.placed (c.in_ok-rows.ensures.rows ∙ ap (λ (rows : List (List (ℕ × ℕ))). slice_set rows c.args.i c.args.row.now) c.rows.ensures.rows) c.in_ok-penalties.ensures c.in_ok-lacks.ensures c.requires.row).stored

pub returns : goal.returns
returns c = c.of_rows.ensures ∙ (with_row_made c.in_ok-rows.rows c.args.cells.now c.args.i c.args.row.now c.in_ok-penalties.penalties.items c.in_ok-lacks.lacks.items c.rows.ensures.table c.in_ok-rows.ensures.placed (c.in_ok-rows.ensures.rows ∙ ap (λ (rows : List (List (ℕ × ℕ))). slice_set rows c.args.i c.args.row.now) c.rows.ensures.rows) c.in_ok-penalties.ensures c.in_ok-lacks.ensures c.requires.row).same
