use Rattle.std.proofs.Common.{refl, arith, ◌∙◌, ap}
use Rattle.std.specs.BTreeMap.{get}
use Rattle.std.specs.Cmp.Lexicographic.{slice_cmp}
use Rattle.std.specs.Ordering.{nat_cmp}
use Rattle.wagons_and_orders.specs.Lack.{is_waiting}
use Rattle.wagons_and_orders.proofs.Rows.{row_withdrawn}
use Rattle.fleet_rows.specs.Rows.{taken_back, wanted_open}
use Rattle.fleet_rows.proofs.Orders.{IsRowAt, less_all, row_there, set_at, wanted_within}
use Rattle.fleet_rows.proofs.Waiting.{room_at, stored_with}
use Rattle.fleet_rows.proofs.order_rows.OrderRows.withdraw.Goals as goal

at : (c : goal.After-note) → IsRowAt c.self.inside.rows.items c.index_mut-row.result.now.text.id c.args.index c.index_mut-row.result.now
at c = row_there c.self.inside.rows.items c.args.index c.index_mut-row.result.now c.self.invariant.rows_kept.kept (rw (← c.self.view_is) at c.requires) c.index_mut-row.ensures.value

pub note-requires : goal.note-requires
note-requires c =
    room_at c.self.inside.rows.items (get (slice_cmp nat_cmp) c.self.inside.indexes) c.self.inside.open_wagons c.self.inside.waiting.items _ c.args.index c.self.invariant (rw (← c.self.view_is) at c.requires)

pub invariant_of-self : goal.invariant_of-self
invariant_of-self c =
    rw c.withdraw.ensures (stored_with c.index_mut-row.result.now.text.id c.args.index c.index_mut-row.result.now (taken_back c.index_mut-row.result.now) c.self.invariant (at c) refl
    (row_withdrawn c.index_mut-row.result.now (at c).valid) (less_all c.self.inside.open_wagons c.wanted_open.result (wanted_open c.index_mut-row.result.now) c.wanted_open.ensures
    (wanted_within c.self.inside.rows.items (get (slice_cmp nat_cmp) c.self.inside.indexes) c.self.inside.open_wagons c.index_mut-row.result.now.text.id c.args.index c.index_mut-row.result.now c.self.invariant.rows_kept (at c))) (omega arith)
    (c.is_waiting.ensures.value ∙ ap is_waiting c.withdraw.ensures) c.note.ensures.items c.note.ensures.room)

pub returns : goal.returns
returns c = rw (c.withdraw.ensures, ← c.self.view_is) (set_at c.self.inside.rows.items c.args.index c.index_mut-row.result.now taken_back c.self.invariant.rows_kept.kept (at c))
