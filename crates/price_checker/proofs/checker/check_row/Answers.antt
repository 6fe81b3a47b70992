use Rattle.std.proofs.Common.{◌≡◌, ◌<◌, ◌++◌, ℕ, Some, None, length, ◌∙◌, ap, sym, rules}
use Rattle.std.specs.Option.{option_or}
use Rattle.price_checker.specs.inner.RowWalk.{gap_of_row}
use Rattle.cost_table.proofs.PartLemmas.{rest_all}
use Rattle.price_checker.proofs.RowWalk.{gap_of_parts}
use Rattle.price_checker.proofs.checker.check_row.Goals as goal

pub check_cells-requires-2 : goal.check_cells-requires-2
check_cells-requires-2 c = rest_all (λ (cell : ℕ × ℕ). cell.0 < length c.args.v.now) c.args.row.first.now c.args.row.rest.now c.requires

pub returns-in_err-check_cells : goal.returns-in_err-check_cells
returns-in_err-check_cells c =
    let rest = gap_of_row c.args.i c.args.row.rest.now c.args.u c.args.v.now in
    let first : gap_of_row c.args.i c.args.row.first.now c.args.u c.args.v.now ≡ Some c.in_err-check_cells.field-0.0 = sym c.in_err-check_cells.ensures in
    let whole : gap_of_row c.args.i (c.args.row.first.now ++ c.args.row.rest.now) c.args.u c.args.v.now ≡ Some c.in_err-check_cells.field-0.0 = gap_of_parts c.args.i c.args.row.first.now c.args.row.rest.now c.args.u c.args.v.now ∙ ap (λ o. option_or o rest) first in
    search (rules, whole)

pub returns : goal.returns
returns c =
    let rest = gap_of_row c.args.i c.args.row.rest.now c.args.u c.args.v.now in
    let first : gap_of_row c.args.i c.args.row.first.now c.args.u c.args.v.now ≡ None = sym c.in_ok-check_cells.ensures in
    c.check_cells-2.ensures ∙ sym (gap_of_parts c.args.i c.args.row.first.now c.args.row.rest.now c.args.u c.args.v.now ∙ ap (λ o. option_or o rest) first)
