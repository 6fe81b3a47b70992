use Rattle.std.proofs.Common.{◌≡◌, ◌∙◌, ap, sym, subst, rules, arith, count_by}
use Rattle.std.specs.List.{insert}
use Rattle.wagons_and_orders.specs.NumberChanges.{HasOneMore}
use Rattle.wagons_and_orders.specs.Numbers.{is_below, with_number}
use Rattle.wagons_and_orders.specs.OrderRow.{OrderRowValue}
use Rattle.wagons_and_orders.proofs.Membership.{has_one_more}
use Rattle.wagons_and_orders.proofs.Rows.{row_with, with_number-insert}
use Rattle.wagons_and_orders.proofs.order_row.OrderRow.promise.Goals as goal

put_in : (c : goal.After-unwrap) → c.insert.new.self.items ≡ insert c.self.inside.promised.items (count_by (is_below c.args.number) c.self.inside.promised.items) c.args.number
put_in c = search rules

inserted : (c : goal.After-unwrap) → c.insert.new.self.items ≡ with_number c.args.number c.self.inside.promised.items
inserted c = put_in c ∙ sym (with_number-insert c.args.number c.self.inside.promised.items (rw (← c.self.view_is) at c.requires.unpromised) c.self.invariant.0.ascending)

pub invariant_of-self : goal.invariant_of-self
invariant_of-self c =
    (rw (inserted c) (row_with _ c.args.number (rw (← c.self.view_is) at c.requires.lacking) (rw (← c.self.view_is) at c.requires.unpromised) c.self.invariant.0), omega (arith, c.self.invariant.1, c.insert.ensures.capacity), c.self.invariant.2)

pub returns-clause-row : goal.returns-clause-row
returns-clause-row c = rw (inserted c) (ap (λ (row : OrderRowValue). record row { promised = with_number c.args.number row.promised }) c.self.view_is)

pub returns-clause-promised : goal.returns-clause-promised
returns-clause-promised c =
    let same : c.self.inside.promised.items ≡ c.args.self.now.promised = ap (λ (row : OrderRowValue). row.promised) c.self.view_is in
    let changed : c.insert.new.self.items ≡ with_number c.args.number c.args.self.now.promised = inserted c ∙ ap (with_number c.args.number) same in
    subst (HasOneMore c.args.number c.args.self.now.promised) (sym changed) (has_one_more c.args.number c.args.self.now.promised)
