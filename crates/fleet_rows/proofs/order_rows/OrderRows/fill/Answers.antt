use Rattle.std.proofs.Common.{◌∙◌, refl, arith, ap}
use Rattle.wagons_and_orders.specs.Lack.{is_waiting}
use Rattle.wagons_and_orders.proofs.Rows.{row_filled}
use Rattle.fleet_rows.specs.Rows.{filled_by, wanted_open}
use Rattle.fleet_rows.proofs.Orders.{known_at, less_wanted, wanted-filled}
use Rattle.fleet_rows.proofs.Waiting.{changed_there, room_there, seen_row, stored_there, wanted_there}
use Rattle.fleet_rows.proofs.order_rows.OrderRows.fill.Goals as goal

pub unwrap-index-requires : goal.unwrap-index-requires
unwrap-index-requires c = known_at c.args.self.now c.args.id c.index_of.result c.index_of.ensures c.requires.known

pub fill-requires : goal.fill-requires
fill-requires c = rw (seen_row c.args.id c.self.invariant c.self.view_is c.index_of.ensures c.unwrap-index.ensures c.index_mut-row.ensures.value) at c.requires.promised

pub note-requires : goal.note-requires
note-requires c = room_there c.args.id c.self.invariant c.self.view_is c.index_of.ensures c.unwrap-index.ensures c.index_mut-row.ensures.value

pub invariant_of-self : goal.invariant_of-self
invariant_of-self c =
    rw c.fill.ensures.row (stored_there c.args.id c.self.invariant c.self.view_is c.index_of.ensures c.unwrap-index.ensures c.index_mut-row.ensures.value (filled_by c.args.number c.index_mut-row.result.now) refl
    (λ seen valid. row_filled c.index_mut-row.result.now c.args.number (rw seen at c.requires.promised) valid)
    (less_wanted c.self.inside.open_wagons c.wanted_open-before.result c.wanted_open-after.result (wanted_open c.index_mut-row.result.now) (wanted_open (filled_by c.args.number c.index_mut-row.result.now))
    c.wanted_open-before.ensures (c.wanted_open-after.ensures ∙ ap wanted_open c.fill.ensures.row) (wanted-filled c.args.number c.index_mut-row.result.now) (wanted_there c.args.id c.self.invariant c.self.view_is c.index_of.ensures c.unwrap-index.ensures c.index_mut-row.ensures.value)) (omega arith)
    (c.is_waiting.ensures.value ∙ ap is_waiting c.fill.ensures.row) c.note.ensures.items c.note.ensures.room)

pub returns : goal.returns
returns c = rw c.fill.ensures.row (changed_there c.args.id c.self.invariant c.self.view_is c.index_of.ensures c.unwrap-index.ensures c.index_mut-row.ensures.value (filled_by c.args.number))
