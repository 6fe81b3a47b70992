use Rattle.std.proofs.Common.{◌≡◌, ◌∙◌, ap, sym, subst}
use Rattle.wagons_and_orders.specs.NumberChanges.{HasAllBut}
use Rattle.wagons_and_orders.specs.Numbers.{without_number}
use Rattle.wagons_and_orders.specs.OrderRow.{OrderRowValue}
use Rattle.wagons_and_orders.proofs.Membership.{has_all_but}
use Rattle.wagons_and_orders.proofs.Rows.{row_without}
use Rattle.wagons_and_orders.proofs.order_row.OrderRow.end_promise.Goals as goal

pub invariant_of-self : goal.invariant_of-self
invariant_of-self c = (rw c.take_off.ensures.items (row_without _ c.args.number c.self.invariant.0), rw c.take_off.ensures.room c.self.invariant.1, c.self.invariant.2)

pub returns-clause-promised : goal.returns-clause-promised
returns-clause-promised c =
    let same : c.self.inside.promised.items ≡ c.args.self.now.promised = ap (λ (row : OrderRowValue). row.promised) c.self.view_is in
    let changed : c.take_off.new.numbers.items ≡ without_number c.args.number c.args.self.now.promised = c.take_off.ensures.items ∙ ap (without_number c.args.number) same in
    subst (HasAllBut c.args.number c.args.self.now.promised) (sym changed) (has_all_but c.args.number c.args.self.now.promised)
