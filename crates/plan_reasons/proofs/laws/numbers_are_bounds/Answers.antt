use Rattle.cost_table.specs.Table.{wagon_count}
use Rattle.std.proofs.Common.{refl}
use Rattle.plan_bounds.specs.LeastSlack.{least_new_slack}
use Rattle.plan_bounds.proofs.Least.{least_bounds, none_bounds}
use Rattle.plan_bounds.proofs.OtherPlans.{idle_wagons_cost_their_price}
use Rattle.plan_bounds.proofs.OtherTables.{one_less_saves_the_price, one_more_costs_the_price, without_a_wagon_costs_its_price}
use Rattle.plan_reasons.proofs.More.{numbers_of_pairs_bound}
use Rattle.plan_reasons.proofs.laws.numbers_are_bounds.Goals as goal

pub returns-clause-orders : goal.returns-clause-orders
returns-clause-orders c = λ p certified j lt. record {
  one_more = one_more_costs_the_price p certified j lt;
  one_less = one_less_saves_the_price p certified j lt;
  further = least_bounds p certified j (least_new_slack p j (wagon_count p.table)) refl;
  settled = none_bounds p certified j (least_new_slack p j (wagon_count p.table)) refl;
}

pub returns-clause-wagons : goal.returns-clause-wagons
returns-clause-wagons c = λ p certified i lt. record {
  stays = idle_wagons_cost_their_price p certified i lt;
  without = without_a_wagon_costs_its_price p certified i lt;
}

pub returns-clause-pairs : goal.returns-clause-pairs
returns-clause-pairs c = numbers_of_pairs_bound
