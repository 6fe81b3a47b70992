use Rattle.std.proofs.Common.{arith, ◌≡◌, ◌++◌, ◌∷◌, [], map, sym, ap}
use Rattle.std.proofs.lemmas.List.{map_push}
use Rattle.std.proofs.lemmas.Result.{err_from_is_err_and}
use Rattle.serde_json.specs.View.{view, items_view}
use Rattle.line_fields.specs.declared.field.Field.TheVariants.{Cells}
use Rattle.line_fields.specs.Values.{each}
use Rattle.line_fields.specs.Fields.{in_field}
use Rattle.line_fields.proofs.Items.{in_field_ok, goes_on, is_done}
use Rattle.table_lines.specs.TableLine.{row_of}
use Rattle.table_lines.proofs.Rows.{row_fails}
use Rattle.table_lines.proofs.cells.rows_of.Goals as goal

pub returns-in_err-cells : goal.returns-in_err-cells
returns-in_err-cells c =
    let p = err_from_is_err_and c.from_residual-in_err-cells.result c.from_residual-in_err-cells.ensures.1 in
    rw (p.1, p.2) (row_fails Cells row_of c.args.rows.now c.loop-row.row-index c.row-item.result (map (λ row. row.items) c.loop-row.found.items) c.in_err-cells.field-0.0 (each row_of (items_view c.args.rows.now)) c.loop-row-test.true c.row-item.is c.in_err-cells.ensures c.loop-row.invariant.so_far)

pub loop-row-preserved : goal.loop-row-preserved
loop-row-preserved c =
    let e : map (λ row. row.items) c.push_reserved.new.self.items ≡ map (λ row. row.items) c.loop-row.found.items ++ c.in_ok-cells.cells.items ∷ [] = rw c.push_reserved.ensures.items (map_push _ c.loop-row.found.items c.in_ok-cells.cells) in
    record {
      so_far = rw e (goes_on row_of c.args.rows.now c.loop-row.row-index c.row-item.result (map (λ row. row.items) c.loop-row.found.items) c.in_ok-cells.cells.items (each row_of (items_view c.args.rows.now)) c.loop-row-test.true c.row-item.is (in_field_ok Cells (row_of (view c.row-item.result)) c.in_ok-cells.cells.items (sym c.in_ok-cells.ensures)) c.loop-row.invariant.so_far);
      count = omega arith;
      room = omega arith;
    }

pub returns : goal.returns
returns c = ap (in_field Cells) (is_done row_of c.args.rows.now c.loop-row.row-index (map (λ row. row.items) c.loop-row.found.items) (each row_of (items_view c.args.rows.now)) c.loop-row-test.false c.loop-row.invariant.so_far)
