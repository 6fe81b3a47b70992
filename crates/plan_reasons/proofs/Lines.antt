-- Lines from their parts.
use Rattle.std.proofs.Common.{◌≡◌, ◌<◌, ℕ, zero, suc, Option, Some, List, [], ◌∷◌, ◌++◌, length, refl, ap, ◌∙◌, subst, append_assoc, arith}
use Rattle.std.specs.Prelude.{codes, slice_get, slice_index}
use Rattle.plan_bounds.specs.PricedPlan.{PricedPlan}
use Rattle.exact_costs.specs.declared.further.Further.{Further}
use Rattle.line_network.specs.Network.{NetworkValue}
use Rattle.wagons_and_orders.specs.Wanted.{WantedOrder}
use Rattle.cost_table.specs.Plan.{pair_cost}
use Rattle.cost_table.specs.Problem.{ProblemValue}
use Rattle.plan_reasons.specs.declared.reasons.Counts.{Counts}
use Rattle.plan_reasons.specs.Reasons.{AreCounts}
use Rattle.reply_texts.specs.Lines.{Adds}
use Rattle.plan_reasons.specs.declared.numbers.Numbers.{Numbers}
use Rattle.plan_reasons.specs.declared.numbers.Numbers.TheVariants.{Bounds}
use Rattle.plan_reasons.specs.declared.style.Style.{Style}
use Rattle.plan_reasons.specs.Fields.{ending, field, quoted}
use Rattle.plan_reasons.specs.Numbers.{AreChanges, IsWithout}
use Rattle.plan_reasons.specs.PrintedNumbers.{AreChangeNumbers, AreCountNumbers, AreOrderNumbers, IsPrinted}
use Rattle.plan_reasons.specs.Journeys.{IsJourney}
use Rattle.plan_reasons.specs.declared.journey.Journey.{Journey}
use Rattle.plan_reasons.specs.WhyText.{AreExactFields, AreLastFields, IsOrderLine, IsWagonLine, change_fields, count_fields, price_fields, order_fields, order_line, wagon_fields, wagon_line, without_fields}
use Rattle.plan_reasons.specs.inner.Added.{IsMomentField}
use Rattle.plan_reasons.proofs.Fields.{three_parts}

module _ (style : Style) (numbers : Numbers) (net : NetworkValue) (problem : ProblemValue) (p : PricedPlan) where
  pub line_of_order : (j : ℕ) (wanted : WantedOrder) (counts : Counts) (old a b c : List ℕ) → slice_get problem.orders j ≡ Some wanted → AreCounts net problem.at problem.wagons wanted.order counts
      → AreOrderNumbers p j → AreCountNumbers counts → a ≡ old ++ order_fields style problem p j → b ≡ a ++ count_fields style counts → Adds (AreLastFields style numbers p j) b c → Adds (IsOrderLine style numbers net problem p j) old c
  line_of_order j wanted counts old a b c order counted numbers_of counts_of first second third = record {
    added = order_line style problem p j counts third.added;
    is = record { wanted = wanted; order = order; counts = counts; counted = counted; order_numbers = numbers_of; count_numbers = counts_of; last = third.added; last_fields = third.is; text = refl };
    whole = three_parts old (order_fields style problem p j) (count_fields style counts) third.added a b c first second third.whole;
  }

  pub line_of_wagon : (pair : ℕ × ℕ) (journey : Journey) (without : ℕ) (old a b c : List ℕ) → IsJourney net problem pair journey → IsWithout numbers p pair.0 without
      → IsPrinted (pair_cost p.table pair) → IsPrinted without → a ≡ old ++ wagon_fields style problem p pair → Adds (IsMomentField style (codes "arrival") journey.arrival) a b → c ≡ b ++ without_fields style without → Adds (IsWagonLine style numbers net problem p pair) old c
  line_of_wagon pair journey without old a b c goes is km few first second third =
      let moment = second.is in
      record {
        added = wagon_line style problem p pair moment.text without;
        is = record { journey = journey; goes = goes; moment = moment.text; printed = moment.moment; without = without; is_without = is; km_printed = km; without_printed = few; text = refl };
        whole = three_parts old (wagon_fields style problem p pair) (field style (codes "arrival") (quoted style moment.text)) (without_fields style without) a b c first (second.whole ∙ ap (λ (xs : List ℕ). a ++ xs) moment.whole) third;
      }

-- ---- the last fields of an order's line

module _ (style : Style) (p : PricedPlan) (j : ℕ) where
  -- those of the numbers that are asked for
  pub bound_fields : (numbers : Numbers) (old new : List ℕ) → Bounds ≡ numbers → IsPrinted (slice_index p.v j) → new ≡ old ++ price_fields style p j → Adds (AreLastFields style numbers p j) old new
  bound_fields numbers old new asked price is =
      record { added = price_fields style p j; is = subst (λ (n : Numbers). AreLastFields style n p j (price_fields style p j)) asked (record { price_printed = price; text = refl }); whole = is }

  pub exact_fields : (more : Option ℕ) (less : ℕ) (further : Option Further) (old a b : List ℕ) → AreChanges p j more less further
      → AreChangeNumbers more less further → a ≡ old ++ change_fields style more less further → b ≡ a ++ ending style → Adds (AreExactFields style p j) old b
  exact_fields more less further old a b changes few first second = record {
    added = change_fields style more less further ++ ending style;
    is = record { more = more; less = less; further = further; changes = changes; change_numbers = few; text = refl };
    whole = second ∙ ap (λ (t : List ℕ). t ++ ending style) first ∙ append_assoc old (change_fields style more less further) (ending style);
  }

-- something stands at each place of a list
pub some_there : {A : Type 0} (xs : List A) (i : ℕ) → i < length xs → (x : A) × (slice_get xs i ≡ Some x)
some_there [] i lt = absurd (omega arith)
some_there (x ∷ xs) zero lt = (x, refl)
some_there (x ∷ xs) (suc i) lt = some_there xs i (omega arith)
