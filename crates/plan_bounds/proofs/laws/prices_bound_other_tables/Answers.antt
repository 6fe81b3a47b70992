use Rattle.plan_bounds.proofs.OtherTables.{its_twin_saves_its_price, lacks_cost_the_price, one_less_saves_the_price, one_more_costs_the_price, one_wagon_more_saves_its_gain, without_a_wagon_costs_its_price}
use Rattle.plan_bounds.proofs.laws.prices_bound_other_tables.Goals as goal

pub returns : goal.returns
returns c = record {
  lacks = lacks_cost_the_price;
  one_more = one_more_costs_the_price;
  one_less = one_less_saves_the_price;
  wagon_less = without_a_wagon_costs_its_price;
  wagon_more = one_wagon_more_saves_its_gain;
  twin = its_twin_saves_its_price;
}
