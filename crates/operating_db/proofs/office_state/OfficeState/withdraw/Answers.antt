use Rattle.std.proofs.Common.{◌≡◌, ◌∙◌, ap, sym, true, map, rules}
use Rattle.wagons_and_orders.specs.Lack.{is_open}
use Rattle.fleet_rows.specs.Rows.{at_order, taken_back}
use Rattle.fleet_rows.proofs.Orders.{id-order_in}
use Rattle.operating_db.specs.After.{unpromised}
use Rattle.operating_db.specs.Office.{Office}
use Rattle.operating_db.proofs.States.{withdrawn_done, withdrawn_is, withdrawn_state}
use Rattle.operating_db.proofs.office_state.OfficeState.withdraw.Goals as goal

wagons_are : (c : goal.After-withdraw) → c.end_promises.new.wagons ≡ map (unpromised c.args.id) c.self.inside.wagons
wagons_are c =
    let office : Office = record { wagons = c.self.inside.wagons; orders = c.self.inside.orders; network = c.self.inside.network } in
    withdrawn_is office c.args.id c.in-Some.row.now c.promised.result.now c.end_promises.new.wagons c.self.invariant.promises c.for_the_prover.ensures c.in-Some.ensures.row c.promised.ensures.value c.end_promises.ensures

orders_are : (c : goal.After-withdraw) → c.withdraw.new.self ≡ at_order c.args.id taken_back c.self.inside.orders
orders_are c =
    (rw c.in-Some.ensures.index at c.withdraw.ensures) ∙ ap (λ name. at_order name taken_back c.self.inside.orders) (id-order_in c.self.inside.orders c.args.id c.in-Some.row.now (sym c.in-Some.ensures.row))

pub invariant_of-self : goal.invariant_of-self
invariant_of-self c = withdrawn_state _ c.args.id c.end_promises.new.wagons c.withdraw.new.self (wagons_are c) (orders_are c) c.self.invariant

pub returns-clause-done : goal.returns-clause-done
returns-clause-done c =
    let office : Office = record { wagons = c.self.inside.wagons; orders = c.self.inside.orders; network = c.self.inside.network } in
    let is : is_open c.in-Some.row.now ≡ true = search rules in
    rw (← c.self.view_is) (withdrawn_done office c.args.id c.in-Some.row.now c.end_promises.new.wagons c.withdraw.new.self c.in-Some.ensures.row is (wagons_are c) (orders_are c))
