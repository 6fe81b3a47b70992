-- The line of an order, from its parts.
use Rattle.std.proofs.Common.{◌≡◌, ℕ, List, ◌++◌, refl, ap, ◌∙◌, append_assoc}
use Rattle.std.specs.Prelude.{count_by}
use Rattle.rail_codes.specs.Moment.{IsMomentText}
use Rattle.reply_texts.specs.Lines.{Adds}
use Rattle.wagons_and_orders.specs.declared.wagon_row.WagonRow.{WagonRow}
use Rattle.office_map.specs.Orders.{is_promised_to, order_back, order_front, order_text, IsOrderLine}
use Rattle.office_map.specs.declared.shown.ShownOrder.{ShownOrder}

joined : (old front middle back : List ℕ) → ((old ++ front) ++ middle) ++ back ≡ old ++ (front ++ middle ++ back)
joined old front middle back = simp append_assoc refl

three_parts : (old front middle back a b c : List ℕ) → a ≡ old ++ front → b ≡ a ++ middle → c ≡ b ++ back → c ≡ old ++ (front ++ middle ++ back)
three_parts old front middle back a b c first second third =
    third ∙ ap (λ (xs : List ℕ). xs ++ back) (second ∙ ap (λ (xs : List ℕ). xs ++ middle) first) ∙ joined old front middle back

-- a front, the latest moment behind it, and a back
pub order_line : (wagons : List WagonRow) (order : ShownOrder) (old a b c : List ℕ) → a ≡ old ++ order_front order → Adds (IsMomentText order.text.latest) a b
    → c ≡ b ++ order_back (count_by (is_promised_to order.text.id) wagons) → Adds (IsOrderLine wagons order) old c
order_line wagons order old a b c first moment last = record {
  added = order_text wagons order moment.added;
  is = record { latest = moment.added; moment = moment.is; text = refl };
  whole = three_parts old (order_front order) moment.added (order_back (count_by (is_promised_to order.text.id) wagons)) a b c first moment.whole last;
}
