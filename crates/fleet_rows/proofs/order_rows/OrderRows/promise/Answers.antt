use Rattle.std.proofs.Common.{refl, arith, ◌∙◌, ap}
use Rattle.wagons_and_orders.specs.Lack.{is_waiting}
use Rattle.wagons_and_orders.proofs.Rows.{row_with}
use Rattle.fleet_rows.specs.Rows.{promised_to}
use Rattle.fleet_rows.proofs.Orders.{known_at}
use Rattle.fleet_rows.proofs.Waiting.{changed_there, room_there, seen_row, stored_there}
use Rattle.fleet_rows.proofs.order_rows.OrderRows.promise.Goals as goal

pub unwrap-index-requires : goal.unwrap-index-requires
unwrap-index-requires c = known_at c.args.self.now c.args.id c.index_of.result c.index_of.ensures c.requires.known

pub promise-requires-clause-lacking : goal.promise-requires-clause-lacking
promise-requires-clause-lacking c = rw (seen_row c.args.id c.self.invariant c.self.view_is c.index_of.ensures c.unwrap-index.ensures c.index_mut-row.ensures.value) at c.requires.lacking

pub promise-requires-clause-unpromised : goal.promise-requires-clause-unpromised
promise-requires-clause-unpromised c = rw (seen_row c.args.id c.self.invariant c.self.view_is c.index_of.ensures c.unwrap-index.ensures c.index_mut-row.ensures.value) at c.requires.unpromised

pub note-requires : goal.note-requires
note-requires c = room_there c.args.id c.self.invariant c.self.view_is c.index_of.ensures c.unwrap-index.ensures c.index_mut-row.ensures.value

pub invariant_of-self : goal.invariant_of-self
invariant_of-self c =
    rw c.promise.ensures.row (stored_there c.args.id c.self.invariant c.self.view_is c.index_of.ensures c.unwrap-index.ensures c.index_mut-row.ensures.value (promised_to c.args.number c.index_mut-row.result.now) refl
    (λ seen valid. row_with c.index_mut-row.result.now c.args.number (rw seen at c.requires.lacking) (rw seen at c.requires.unpromised) valid) refl (omega arith)
    (c.is_waiting.ensures.value ∙ ap is_waiting c.promise.ensures.row) c.note.ensures.items c.note.ensures.room)

pub returns : goal.returns
returns c = rw c.promise.ensures.row (changed_there c.args.id c.self.invariant c.self.view_is c.index_of.ensures c.unwrap-index.ensures c.index_mut-row.ensures.value (promised_to c.args.number))
