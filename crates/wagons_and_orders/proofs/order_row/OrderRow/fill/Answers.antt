use Rattle.std.proofs.Common.{◌≡◌, ◌∙◌, ◌++◌, ◌∷◌, [], ap, sym, subst, rules, arith}
use Rattle.wagons_and_orders.specs.NumberChanges.{HasAllBut}
use Rattle.wagons_and_orders.specs.Numbers.{without_number}
use Rattle.wagons_and_orders.specs.OrderRow.{OrderRowValue}
use Rattle.wagons_and_orders.proofs.Membership.{has_all_but}
use Rattle.wagons_and_orders.proofs.Rows.{row_filled}
use Rattle.wagons_and_orders.proofs.order_row.OrderRow.fill.Goals as goal

pub invariant_of-self : goal.invariant_of-self
invariant_of-self c =
    let pushed : c.push.new.self.items ≡ c.self.inside.filled.items ++ c.args.number ∷ [] = search rules in
    (rw (c.take_off.ensures.items, pushed) (row_filled _ c.args.number (rw (← c.self.view_is) at c.requires) c.self.invariant.0), rw c.take_off.ensures.room c.self.invariant.1, omega (arith, c.self.invariant.2, c.push.ensures.capacity))

pub returns-clause-promised : goal.returns-clause-promised
returns-clause-promised c =
    let same : c.self.inside.promised.items ≡ c.args.self.now.promised = ap (λ (row : OrderRowValue). row.promised) c.self.view_is in
    let changed : c.take_off.new.numbers.items ≡ without_number c.args.number c.args.self.now.promised = c.take_off.ensures.items ∙ ap (without_number c.args.number) same in
    subst (HasAllBut c.args.number c.args.self.now.promised) (sym changed) (has_all_but c.args.number c.args.self.now.promised)
