use Rattle.std.proofs.Common.{map, arith}
use Rattle.std.proofs.lemmas.Grind.{common_steps}
use Rattle.serde_json.specs.View.{view}
use Rattle.line_fields.specs.Values.{list_of_each}
use Rattle.line_fields.specs.Fields.{Gives, field_of}
use Rattle.table_lines.specs.TableLine.{cells_of}
use Rattle.table_lines.proofs.Bounds.{cells_are}
use Rattle.table_lines.proofs.cells.cells_at.Goals as goal

pub returns-clause-limits : goal.returns-clause-limits
unfolding field_of list_of_each
returns-clause-limits c =
    let given : Gives (λ rows. map (λ row. row.items) rows.items) c.rows_of.result (cells_of (view c.args.object.now)) = grind (arith, common_steps) in
    cells_are (view c.args.object.now) c.rows_of.result given
