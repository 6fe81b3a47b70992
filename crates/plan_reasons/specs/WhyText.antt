-- The text that says why a plan is as it is: a line for the whole, one for each order as placed, and one for each wagon that
-- goes, in the plan's order. A heading stands before the first line of each kind.
use Rattle.std.specs.Prelude.{◌≡◌, ◌-◌, ℕ, List, ◌++◌, length, Option, Some, None, slice_get, slice_index, codes, decimal, if◌then◌else◌, ◌==◌}
use Rattle.std.specs.List.{range_with_len}
use Rattle.rail_codes.specs.Moment.{IsMomentText}
use Rattle.wagons_and_orders.specs.Wanted.{WantedOrder}
use Rattle.line_network.specs.Network.{NetworkValue}
use Rattle.cost_table.specs.Table.{lack_at, order_count, wagon_count}
use Rattle.cost_table.specs.Plan.{pair_cost, serves, sum_below}
use Rattle.cost_table.specs.Problem.{ProblemValue, order_names, wagon_names}
use Rattle.price_checker.specs.NamedFaults.{name_at}
use Rattle.plan_bounds.specs.PricedPlan.{PricedPlan, certified_cost}
use Rattle.plan_bounds.specs.Slack.{missed}
use Rattle.plan_bounds.specs.LeastSlack.{least_new_slack}
use Rattle.exact_costs.specs.declared.further.Further.{Further}
use Rattle.exact_costs.specs.declared.further.Further.TheVariants.{Exactly, Over, Never}
use Rattle.reply_texts.specs.Lines.{AreLines}
use Rattle.plan_reasons.specs.declared.journey.Journey.{Journey}
use Rattle.plan_reasons.specs.declared.numbers.Numbers.{Numbers}
use Rattle.plan_reasons.specs.declared.numbers.Numbers.TheVariants.{Exact, Bounds}
use Rattle.plan_reasons.specs.declared.style.Style.{Style}
use Rattle.plan_reasons.specs.declared.reasons.Counts.{Counts}
use Rattle.plan_reasons.specs.Journeys.{IsJourney}
use Rattle.plan_reasons.specs.Fields.{ending, field, first_field, nothing, quoted}
use Rattle.plan_reasons.specs.Headings.{heading, heading_over, order_columns, wagon_columns, why_columns}
use Rattle.plan_reasons.specs.Numbers.{AreChanges, IsWithout}
use Rattle.plan_reasons.specs.PrintedNumbers.{AreChangeNumbers, AreCountNumbers, AreOrderNumbers, ArePlanNumbers, IsPrinted}
use Rattle.plan_reasons.specs.Reasons.{AreCounts}

-- ---- the whole

-- how many wagons the orders miss in all
abbrev pub missed_in_all : PricedPlan → ℕ
missed_in_all p = sum_below (order_count p.table) (missed p p.pairs)

-- the version, how many free wagons and how many orders there are
abbrev pub problem_fields : Style → (version : ℕ) → ProblemValue → List ℕ
problem_fields style version problem =
    first_field style (codes "why") (decimal version) ++ field style (codes "free") (decimal (length problem.wagons))
    ++ field style (codes "orders") (decimal (length problem.orders))

-- what the plan costs in km, how many wagons go, how many stay, and how many the orders miss
abbrev pub plan_fields : Style → ProblemValue → PricedPlan → List ℕ
plan_fields style problem p =
    field style (codes "cost") (decimal (certified_cost p)) ++ field style (codes "go") (decimal (length p.pairs))
    ++ field style (codes "stay") (decimal (length problem.wagons - length p.pairs)) ++ field style (codes "miss") (decimal (missed_in_all p))

abbrev pub why_line : Style → (version : ℕ) → ProblemValue → PricedPlan → List ℕ
why_line style version problem p = problem_fields style version problem ++ plan_fields style problem p ++ ending style

-- ---- orders

-- the name of an order, how many wagons it lacks, gets, and misses then
abbrev pub order_fields : Style → ProblemValue → PricedPlan → (j : ℕ) → List ℕ
order_fields style problem p j =
    first_field style (codes "order") (quoted style (name_at (order_names problem.orders) j))
    ++ field style (codes "lacks") (decimal (lack_at p.table j)) ++ field style (codes "gets") (decimal (serves j p.pairs))
    ++ field style (codes "misses") (decimal (missed p p.pairs j))

-- how many free wagons pass each test, one after the other
abbrev pub count_fields : Style → Counts → List ℕ
count_fields style counts =
    field style (codes "class") (decimal counts.class) ++ field style (codes "load") (decimal counts.load)
    ++ field style (codes "way") (decimal counts.way) ++ field style (codes "time") (decimal counts.in_time)
    ++ field style (codes "cheaper") (decimal counts.cheaper)

-- a bound; a word where no plan is so
abbrev pub bound_value : Style → Option ℕ → List ℕ
bound_value style None = quoted style (codes "none")
bound_value style (Some km) = decimal km

-- for an order that misses a wagon, what every plan costs more, at least, that gives it more wagons
abbrev pub further_value : Style → PricedPlan → (j : ℕ) → List ℕ
further_value style p j =
    if missed p p.pairs j == 0 then nothing style else bound_value style (least_new_slack p j (wagon_count p.table))

-- a number, or that there is none
abbrev pub number_value : Style → Option ℕ → List ℕ
number_value style None = nothing style
number_value style (Some km) = decimal km

-- what the best plan costs more that gives the order more wagons; a word where only a bound is known, or where no plan is so; nothing
-- where the order misses none
abbrev pub exact_value : Style → Option Further → List ℕ
exact_value style None = nothing style
exact_value style (Some (Exactly km)) = decimal km
exact_value style (Some (Over km)) = quoted style (codes "over")
exact_value style (Some Never) = quoted style (codes "none")

-- what the best plan costs more where the order lacks one wagon more, less where it lacks one less, and more where it gets more
abbrev pub change_fields : Style → (more : Option ℕ) → (less : ℕ) → (further : Option Further) → List ℕ
change_fields style more less further =
    field style (codes "more") (number_value style more) ++ field style (codes "less") (decimal less)
    ++ field style (codes "further") (exact_value style further)

-- the three of them
pub record AreExactFields (style : Style) (p : PricedPlan) (j : ℕ) (fields : List ℕ) : Type 0 where
  pub more : Option ℕ
  pub less : ℕ
  pub further : Option Further
  pub changes : AreChanges p j more less further
  pub change_numbers : AreChangeNumbers more less further
  pub text : fields ≡ change_fields style more less further ++ ending style

-- the order's price and the bound of what it costs to give it more, as text
abbrev pub price_fields : Style → PricedPlan → (j : ℕ) → List ℕ
price_fields style p j =
    field style (codes "price") (decimal (slice_index p.v j)) ++ field style (codes "further") (further_value style p j) ++ ending style

-- the order's price and that bound
pub record ArePriceFields (style : Style) (p : PricedPlan) (j : ℕ) (fields : List ℕ) : Type 0 where
  pub price_printed : IsPrinted (slice_index p.v j)
  pub text : fields ≡ price_fields style p j

-- the last fields of order j
abbrev pub AreLastFields : Style → Numbers → PricedPlan → (j : ℕ) → (fields : List ℕ) → Type 0
AreLastFields style Exact p j fields = AreExactFields style p j fields
AreLastFields style Bounds p j fields = ArePriceFields style p j fields

abbrev pub order_line : Style → ProblemValue → PricedPlan → (j : ℕ) → Counts → (last : List ℕ) → List ℕ
order_line style problem p j counts last = order_fields style problem p j ++ count_fields style counts ++ last

-- the line of order j
pub record IsOrderLine (style : Style) (numbers : Numbers) (net : NetworkValue) (problem : ProblemValue) (p : PricedPlan) (j : ℕ) (line : List ℕ) : Type 0 where
  pub wanted : WantedOrder
  pub order : slice_get problem.orders j ≡ Some wanted
  pub counts : Counts
  pub counted : AreCounts net problem.at problem.wagons wanted.order counts
  pub order_numbers : AreOrderNumbers p j
  pub count_numbers : AreCountNumbers counts
  pub last : List ℕ
  pub last_fields : AreLastFields style numbers p j last
  pub text : line ≡ order_line style problem p j counts last

-- ---- wagons

-- the number of a wagon that goes, its order and its kilometres
abbrev pub wagon_fields : Style → ProblemValue → PricedPlan → (pair : ℕ × ℕ) → List ℕ
wagon_fields style problem p pair =
    first_field style (codes "wagon") (quoted style (name_at (wagon_names problem.wagons) pair.0))
    ++ field style (codes "order") (quoted style (name_at (order_names problem.orders) pair.1))
    ++ field style (codes "km") (decimal (pair_cost p.table pair))

-- what plans cost more without it
abbrev pub without_fields : Style → (km : ℕ) → List ℕ
without_fields style km = field style (codes "without") (decimal km) ++ ending style

abbrev pub wagon_line : Style → ProblemValue → PricedPlan → (pair : ℕ × ℕ) → (moment : List ℕ) → (without : ℕ) → List ℕ
wagon_line style problem p pair moment without =
    wagon_fields style problem p pair ++ field style (codes "arrival") (quoted style moment) ++ without_fields style without

-- the line of a wagon that goes
pub record IsWagonLine (style : Style) (numbers : Numbers) (net : NetworkValue) (problem : ProblemValue) (p : PricedPlan) (pair : ℕ × ℕ) (line : List ℕ) : Type 0 where
  pub journey : Journey
  pub goes : IsJourney net problem pair journey
  pub moment : List ℕ
  pub printed : IsMomentText journey.arrival moment
  pub without : ℕ
  pub is_without : IsWithout numbers p pair.0 without
  pub km_printed : IsPrinted (pair_cost p.table pair)
  pub without_printed : IsPrinted without
  pub text : line ≡ wagon_line style problem p pair moment without

-- ---- the text

pub record IsWhyText (style : Style) (numbers : Numbers) (version : ℕ) (net : NetworkValue) (problem : ProblemValue) (p : PricedPlan) (text : List ℕ) : Type 0 where
  pub orders : List ℕ
  pub wagons : List ℕ
  pub version_printed : IsPrinted version
  pub plan_numbers : ArePlanNumbers problem p (missed_in_all p)
  pub order_lines : AreLines (IsOrderLine style numbers net problem p) (range_with_len 0 (length problem.orders)) orders
  pub wagon_lines : AreLines (IsWagonLine style numbers net problem p) p.pairs wagons
  pub whole : text ≡ heading style why_columns ++ why_line style version problem p
      ++ heading_over style (order_columns numbers) (length problem.orders) ++ orders
      ++ heading_over style wagon_columns (length p.pairs) ++ wagons
