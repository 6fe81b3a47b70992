use Rattle.std.proofs.Common.{◌≡◌, ◌≤◌, length, map, take}
use Rattle.std.specs.Prelude.{vec_capacity}
use Rattle.wagons_and_orders.specs.Wanted.{WantedOrder}
use Rattle.journal_notes.proofs.office_notes.wanted_names.Given as goal

abbrev pub invariant-loop-wanted : goal.invariant-loop-wanted
invariant-loop-wanted l = record {
  names : l.names.items ≡ map (λ (wanted : WantedOrder). wanted.order.id) (take l.wanted-index l.orders);
  room : length l.orders ≤ vec_capacity l.names;
}
