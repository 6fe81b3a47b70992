use Rattle.std.proofs.Common.{◌≡◌, ◌∙◌, Some, ap, option_map, slice_get, sym}
use Rattle.fleet_rows.specs.Rows.{is_order}
use Rattle.fleet_rows.proofs.Named.{found_at_place, not_found, read_at}
use Rattle.fleet_rows.proofs.order_rows.OrderRows.find.Goals as goal

pub returns-in_err-index-clause-row : goal.returns-in_err-index-clause-row
returns-in_err-index-clause-row c = rw c.from_residual.ensures (sym (not_found (is_order c.args.id) c.args.self.now (sym c.in_err-index.ensures)))

there : (c : goal.In_ok-row) → slice_get c.self.inside.rows.items c.in_ok-index.index ≡ Some c.in_ok-row.row.now
there c =
    let (found, within) = found_at_place (is_order c.args.id) c.self.inside.rows.items c.in_ok-index.index (rw (← c.self.view_is) at (sym c.in_ok-index.ensures)) in
    let lookup = rw c.deref.ensures.value at c.get.ensures.lookup in
    sym (read_at c.get.result c.self.inside.rows.items c.in_ok-index.index lookup.0 lookup.1 within) ∙ ap (option_map (λ row. row.now)) c.in_ok-row.was

pub returns-clause-row : goal.returns-clause-row
returns-clause-row c =
    let (found, within) = found_at_place (is_order c.args.id) c.self.inside.rows.items c.in_ok-index.index (rw (← c.self.view_is) at (sym c.in_ok-index.ensures)) in
    rw (← c.self.view_is) (sym (there c) ∙ sym found)

pub returns-clause-index : goal.returns-clause-index
returns-clause-index c = rw (← c.self.view_is) (there c)
