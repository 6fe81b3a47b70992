use Rattle.std.proofs.Common.{◌≡◌, List, subst}
use Rattle.std.specs.Prelude.{position}
use Rattle.wagons_and_orders.specs.Wanted.{WantedOrder}
use Rattle.cost_table.specs.Names.{is_name}
use Rattle.plan_reasons.proofs.NamedThere.{found_there, named_there}
use Rattle.plan_reasons.proofs.finders.find_order.Goals as goal

pub returns-clause-found : goal.returns-clause-found
returns-clause-found c =
    let items = c.args.problem.now.orders in
    let name = c.args.name.now in
    let is = subst (λ (xs : List WantedOrder). c.order_at.result ≡ position (λ x. is_name name x.order.id) xs) c.orders.ensures.orders c.order_at.ensures in
    named_there (λ (x : WantedOrder). x.order.id) items name c.order_at.result is

pub returns-clause-held : goal.returns-clause-held
returns-clause-held c =
    let items = c.args.problem.now.orders in
    let name = c.args.name.now in
    let is = subst (λ (xs : List WantedOrder). c.order_at.result ≡ position (λ x. is_name name x.order.id) xs) c.orders.ensures.orders c.order_at.ensures in
    found_there (λ (x : WantedOrder). x.order.id) items name c.order_at.result is c.orders.ensures.problem.each_order_once
