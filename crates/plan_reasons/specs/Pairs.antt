-- The line of a free wagon with a waiting order: what plans cost more that have this pair, where the wagon passes each test for the
-- order; else the first test that it fails, with the two values that were compared.
use Rattle.std.specs.Prelude.{◌≡◌, ◌+◌, ◌*◌, ◌<◌, ◌≤◌, ◌==◌, if◌then◌else◌, ℕ, Bool, true, false, max, List, [], ◌∷◌, ◌++◌, map, codes, decimal, slice_get, Option, Some}
use Rattle.std.specs.List.{join_with_byte}
use Rattle.rail_codes.specs.Moment.{IsMomentText, last_second}
use Rattle.move_messages.specs.Order.{Order}
use Rattle.wagons_and_orders.specs.declared.free_wagon.FreeWagon.{FreeWagon}
use Rattle.wagons_and_orders.specs.Wanted.{WantedOrder}
use Rattle.line_network.specs.Network.{NetworkValue}
use Rattle.place_names.specs.declared.named_place.NamedPlace.{NamedPlace}
use Rattle.line_network.specs.Distance.{IsDistance}
use Rattle.problem_table.specs.Allowed.{Reaches}
use Rattle.cost_table.specs.Plan.{pair_cost}
use Rattle.cost_table.specs.Problem.{ProblemValue}
use Rattle.plan_bounds.specs.PricedPlan.{PricedPlan}
use Rattle.plan_bounds.specs.LeastSlack.{has_pair}
use Rattle.plan_reasons.specs.declared.failed.Failed.{Failed}
use Rattle.plan_reasons.specs.declared.fit.Fit.{Fit}
use Rattle.plan_reasons.specs.declared.numbers.Numbers.{Numbers}
use Rattle.plan_reasons.specs.declared.numbers.Numbers.TheVariants.{Exact, Bounds}
use Rattle.plan_reasons.specs.declared.style.Style.{Style}
use Rattle.plan_reasons.specs.declared.style.Style.TheVariants.{Text, Json}
use Rattle.plan_reasons.specs.declared.reasons.Test.{Test}
use Rattle.plan_reasons.specs.declared.reasons.Test.TheVariants.{Class, Load, Way, InTime, Cheaper}
use Rattle.plan_reasons.specs.Fields.{ending, field, first_field, nothing, quoted}
use Rattle.plan_reasons.specs.Numbers.{IsMoreOf}
use Rattle.plan_reasons.specs.PlaceFields.{place_field}
use Rattle.plan_reasons.specs.PrintedNumbers.{IsPrinted}
use Rattle.plan_reasons.specs.Reasons.{FailsFirst, IsCheaper}

-- ---- fields

-- what the line says of the wagon and the order
abbrev pub pair_fields : Style → (name : List ℕ) → FreeWagon → Order → List ℕ
pair_fields style name wagon order = first_field style name (quoted style wagon.number) ++ field style (codes "order") (quoted style order.id)

-- what stands around a list
abbrev pub list_start : Style → List ℕ
list_start Text = []
list_start Json = 91 ∷ []

abbrev pub list_end : Style → List ℕ
list_end Text = []
list_end Json = 93 ∷ []

-- names, parted by commas
abbrev pub list_value : Style → List (List ℕ) → List ℕ
list_value style names = list_start style ++ join_with_byte 44 (map (quoted style) names) ++ list_end style

-- when a wagon arrives that may be late: nothing where that is after the last second of which a moment may be
pub record IsArrivalValue (style : Style) (seconds : ℕ) (value : List ℕ) : Type 0 where
  pub moment : seconds ≤ last_second → (text : List ℕ) × IsMomentText seconds text × (value ≡ quoted style text)
  pub past : last_second < seconds → value ≡ nothing style

-- ---- a wagon that fails a test

-- the two values that the test compares, each with its name
abbrev pub compared_line : Style → (name : List ℕ) → FreeWagon → Order → (one : List ℕ × List ℕ) → (other : List ℕ × List ℕ) → List ℕ
compared_line style name wagon order one other =
    pair_fields style name wagon order ++ field style one.0 one.1 ++ field style other.0 other.1 ++ ending style

-- the wagon's class, and those that the order lists
abbrev pub class_line : Style → FreeWagon → Order → List ℕ
class_line style wagon order =
    compared_line style (codes "class") wagon order (codes "has", quoted style wagon.class) (codes "wants", list_value style order.classes)

-- the wagon's load limit, and the order's load, in kg
abbrev pub load_line : Style → FreeWagon → Order → List ℕ
load_line style wagon order =
    compared_line style (codes "load") wagon order (codes "has", decimal wagon.load_limit) (codes "wants", decimal order.load)

-- the line of a wagon that doesn't carry the order's load
pub record IsLoadLine (style : Style) (wagon : FreeWagon) (order : Order) (line : List ℕ) : Type 0 where
  pub limit_printed : IsPrinted wagon.load_limit
  pub load_printed : IsPrinted order.load
  pub text : line ≡ load_line style wagon order

-- the places between which no way leads, each with its name where names are asked for
abbrev pub way_line : Style → (names : Option (List NamedPlace)) → FreeWagon → Order → List ℕ
way_line style names wagon order =
    pair_fields style (codes "way") wagon order ++ place_field style names (codes "from") (codes "from_name") wagon.place
    ++ place_field style names (codes "to") (codes "to_name") order.place ++ ending style

-- when the wagon would be there, and by when it is wanted
abbrev pub late_line : Style → FreeWagon → Order → (arrival latest : List ℕ) → List ℕ
late_line style wagon order arrival latest = compared_line style (codes "late") wagon order (codes "arrival", arrival) (codes "latest", latest)

-- the kilometres of the pair, and the order's penalty
abbrev pub costly_line : Style → FreeWagon → Order → (km : ℕ) → List ℕ
costly_line style wagon order km =
    compared_line style (codes "costly") wagon order (codes "km", decimal km) (codes "penalty", decimal order.penalty)

-- the line of a wagon that arrives too late: it starts at the moment, or when it is ready
pub record IsLateLine (style : Style) (net : NetworkValue) (at : ℕ) (wagon : FreeWagon) (order : Order) (line : List ℕ) : Type 0 where
  pub way : ℕ × ℕ
  pub distance : IsDistance net wagon.place order.place way
  pub arrival : List ℕ
  pub arrives : IsArrivalValue style (max wagon.ready at + 60 * way.1) arrival
  pub latest : List ℕ
  pub printed : IsMomentText order.latest latest
  pub text : line ≡ late_line style wagon order arrival (quoted style latest)

-- the line of a wagon that costs no less than the order's penalty
pub record IsCostlyLine (style : Style) (net : NetworkValue) (at : ℕ) (wagon : FreeWagon) (order : Order) (line : List ℕ) : Type 0 where
  pub km : ℕ
  pub reaches : Reaches net at wagon order km
  pub km_printed : IsPrinted km
  pub penalty_printed : IsPrinted order.penalty
  pub text : line ≡ costly_line style wagon order km

-- the line of a wagon by the test that it fails
abbrev pub IsTestLine : Style → (names : Option (List NamedPlace)) → NetworkValue → (at : ℕ) → FreeWagon → Order → Test → (line : List ℕ) → Type 0
IsTestLine style names net at wagon order Class line = line ≡ class_line style wagon order
IsTestLine style names net at wagon order Load line = IsLoadLine style wagon order line
IsTestLine style names net at wagon order Way line = line ≡ way_line style names wagon order
IsTestLine style names net at wagon order InTime line = IsLateLine style net at wagon order line
IsTestLine style names net at wagon order Cheaper line = IsCostlyLine style net at wagon order line

-- the first test that the wagon of a pair fails for its order
pub record IsFailed (net : NetworkValue) (problem : ProblemValue) (failed : Failed) : Type 0 where
  pub wagon : FreeWagon
  pub free : slice_get problem.wagons failed.pair.0 ≡ Some wagon
  pub wanted : WantedOrder
  pub order : slice_get problem.orders failed.pair.1 ≡ Some wanted
  pub first : FailsFirst net problem.at wagon wanted.order failed.test

-- the line of a pair by the first test that it fails
pub record IsFailedLine (style : Style) (names : Option (List NamedPlace)) (net : NetworkValue) (problem : ProblemValue) (failed : Failed) (line : List ℕ) : Type 0 where
  pub is_failed : IsFailed net problem failed
  pub text : IsTestLine style names net problem.at is_failed.wagon is_failed.wanted.order failed.test line

-- how many wagons are of classes that an order doesn't list, and those that it lists
abbrev pub counted_line : Style → (count : ℕ) → Order → List ℕ
counted_line style count order =
    first_field style (codes "class") (decimal count) ++ field style (codes "order") (quoted style order.id)
    ++ field style (codes "wants") (list_value style order.classes) ++ ending style

-- ---- a wagon that passes each test

abbrev pub truth : Bool → List ℕ
truth true = codes "true"
truth false = codes "false"

-- what is said of a pair that plans may have at no more cost
abbrev pub as_good : Numbers → List ℕ
as_good Exact = codes " another plan is as good"
as_good Bounds = codes " another plan may be as good"

-- whether the plan has the pair. In a text of words it is said where it has, and where a plan with the pair is or may be as good
abbrev pub planned_field : Style → Numbers → (more : ℕ) → (planned : Bool) → List ℕ
planned_field Json numbers more planned = field Json (codes "planned") (truth planned)
planned_field Text numbers more true = codes " planned"
planned_field Text numbers more false = if more == 0 then as_good numbers else []

-- the kilometres of the pair, and what plans with it cost more
abbrev pub cost_fields : Style → Numbers → PricedPlan → Fit → List ℕ
cost_fields style numbers p fit =
    field style (codes "km") (decimal (pair_cost p.table fit.pair)) ++ field style (codes "more") (decimal fit.more)
    ++ planned_field style numbers fit.more (has_pair p.pairs fit.pair.0 fit.pair.1)

abbrev pub fits_line : Style → Numbers → FreeWagon → Order → PricedPlan → Fit → List ℕ
fits_line style numbers wagon order p fit = pair_fields style (codes "fits") wagon order ++ cost_fields style numbers p fit ++ ending style

-- the line of a pair that fails no test
pub record IsFitsLine (style : Style) (numbers : Numbers) (net : NetworkValue) (problem : ProblemValue) (p : PricedPlan) (fit : Fit) (line : List ℕ) : Type 0 where
  pub wagon : FreeWagon
  pub free : slice_get problem.wagons fit.pair.0 ≡ Some wagon
  pub wanted : WantedOrder
  pub order : slice_get problem.orders fit.pair.1 ≡ Some wanted
  pub passes : IsCheaper net problem.at wagon wanted.order
  pub is_more : IsMoreOf numbers p fit.pair fit.more
  pub km_printed : IsPrinted (pair_cost p.table fit.pair)
  pub more_printed : IsPrinted fit.more
  pub text : line ≡ fits_line style numbers wagon wanted.order p fit
