-- Laws of the text: what its counts count, and what its numbers bound.
use Rattle.std.specs.Prelude.{◌≡◌, ◌+◌, ◌-◌, ◌<◌, ◌≤◌, ◌↔◌, ℕ, IsTrue, List, length, None, Option, Some, IfNone, IfSome, is_some, slice_get, slice_index, slice_index_or}
use Rattle.std.specs.List.{count_by}
use Rattle.move_messages.specs.Order.{Order}
use Rattle.wagons_and_orders.specs.declared.free_wagon.FreeWagon.{FreeWagon}
use Rattle.wagons_and_orders.specs.Wanted.{WantedOrder}
use Rattle.line_network.specs.Network.{NetworkValue}
use Rattle.cost_table.specs.Problem.{ProblemValue}
use Rattle.cost_table.specs.Table.{Table, lack_at, order_count, wagon_count}
use Rattle.problem_table.specs.Allowed.{IsTableOf}
use Rattle.plan_bounds.specs.PricedPlan.{IsCertified, PricedPlan}
use Rattle.plan_bounds.specs.Changes.{with_lack, without_wagon}
use Rattle.plan_bounds.specs.LeastSlack.{least_new_slack}
use Rattle.plan_bounds.specs.Bounds.{AllCostMore, CostsMore, HasPair, IsIdle, NoneSavesMore, NoneServesMore, ServesMore}
use Rattle.place_names.specs.declared.named_place.NamedPlace.{NamedPlace}
use Rattle.text_tables.specs.JsonLines.{AreObjects}
use Rattle.plan_reasons.specs.declared.numbers.Numbers.{Numbers}
use Rattle.plan_reasons.specs.declared.style.Style.TheVariants.{Json}
use Rattle.plan_reasons.specs.declared.reasons.Counts.{Counts}
use Rattle.plan_reasons.specs.Reasons.{AreCounts, IsCheaper, IsCount, IsInTime}
use Rattle.plan_reasons.specs.Numbers.{more_of}
use Rattle.plan_reasons.specs.PairLists.{IsOrderText, IsWagonText, passes_all}
use Rattle.plan_reasons.specs.WhyText.{IsWhyText}

-- how many wagons of a table may serve order j
abbrev pub cells_of_order : Table → (j : ℕ) → ℕ
cells_of_order t j = count_by (λ costs. is_some (slice_index_or costs j None)) t.costs

-- the wagons that are there in time are those that may serve the order
abbrev pub InTimeAreAllowed : Type 0
InTimeAreAllowed =
    (net : NetworkValue) (problem : ProblemValue) (t : Table) → IsTableOf net problem t → (j n : ℕ) (wanted : WantedOrder)
    → slice_get problem.orders j ≡ Some wanted → IsCount (λ wagon. IsInTime net problem.at wagon wanted.order) problem.wagons n
    → n ≡ cells_of_order t j

-- the pairs that fail no test are those whose wagon is there in time and costs less than the order's penalty
abbrev pub FitsAreCheaper : Type 0
FitsAreCheaper =
    (net : NetworkValue) (problem : ProblemValue) (t : Table) → IsTableOf net problem t → (i j : ℕ) (wagon : FreeWagon) (wanted : WantedOrder)
    → slice_get problem.wagons i ≡ Some wagon → slice_get problem.orders j ≡ Some wanted
    → IsTrue (passes_all t (i, j)) ↔ IsCheaper net problem.at wagon wanted.order

-- how many wagons pass the tests is one number for each test
abbrev pub CountsAreSettled : Type 0
CountsAreSettled =
    (net : NetworkValue) (at : ℕ) (wagons : List FreeWagon) (order : Order) (one other : Counts)
    → AreCounts net at wagons order one → AreCounts net at wagons order other → one ≡ other

-- a test is passed by no more wagons than the one before it
pub record Narrow (wagons : List FreeWagon) (counts : Counts) : Type 0 where
  pub class : counts.class ≤ length wagons
  pub load : counts.load ≤ counts.class
  pub way : counts.way ≤ counts.load
  pub in_time : counts.in_time ≤ counts.way
  pub cheaper : counts.cheaper ≤ counts.in_time

abbrev pub TestsNarrow : Type 0
TestsNarrow =
    (net : NetworkValue) (at : ℕ) (wagons : List FreeWagon) (order : Order) (counts : Counts)
    → AreCounts net at wagons order counts → Narrow wagons counts

-- what an order's price, and the least slack of its pairs that the plan doesn't have, say of other plans
pub record OrderBounds (p : PricedPlan) (j : ℕ) : Type 0 where
  pub one_more : AllCostMore p (with_lack p.table j (lack_at p.table j + 1)) (slice_index p.v j)
  pub one_less : NoneSavesMore p (with_lack p.table j (lack_at p.table j - 1)) (slice_index p.v j)
  pub further : IfSome (least_new_slack p j (wagon_count p.table)) (CostsMore p (ServesMore p j))
  pub settled : IfNone (least_new_slack p j (wagon_count p.table)) (NoneServesMore p j)

-- what a wagon's price says of other plans
pub record WagonBounds (p : PricedPlan) (i : ℕ) : Type 0 where
  pub stays : CostsMore p (IsIdle i) (slice_index p.u i)
  pub without : AllCostMore p (without_wagon p.table i) (slice_index p.u i)

-- what the number of a pair says of plans that have it; it is 0 for a pair of the plan itself
pub record PairBounds (p : PricedPlan) (i j : ℕ) : Type 0 where
  pub more : CostsMore p (HasPair i j) (more_of p (i, j))
  pub own : HasPair i j p.pairs → more_of p (i, j) ≡ 0

abbrev pub NumbersOfOrdersBound : Type 0
NumbersOfOrdersBound = (p : PricedPlan) → IsCertified p → (j : ℕ) → j < order_count p.table → OrderBounds p j

abbrev pub NumbersOfWagonsBound : Type 0
NumbersOfWagonsBound = (p : PricedPlan) → IsCertified p → (i : ℕ) → i < wagon_count p.table → WagonBounds p i

abbrev pub NumbersOfPairsBound : Type 0
NumbersOfPairsBound = (p : PricedPlan) → IsCertified p → (i j : ℕ) → PairBounds p i j

-- ---- texts as JSON: each of their lines is an object, and no control character stands in it, so no other line feed

abbrev pub WhyTextsAreJson : Type 0
WhyTextsAreJson =
    (numbers : Numbers) (version : ℕ) (net : NetworkValue) (problem : ProblemValue) (p : PricedPlan) (text : List ℕ)
    → IsWhyText Json numbers version net problem p text → AreObjects text

abbrev pub OrderTextsAreJson : Type 0
OrderTextsAreJson =
    (numbers : Numbers) (names : Option (List NamedPlace)) (near : Option ℕ) (net : NetworkValue) (problem : ProblemValue) (p : PricedPlan) (j : ℕ) (text : List ℕ)
    → IsOrderText Json numbers names near net problem p j text → AreObjects text

abbrev pub WagonTextsAreJson : Type 0
WagonTextsAreJson =
    (numbers : Numbers) (names : Option (List NamedPlace)) (near : Option ℕ) (net : NetworkValue) (problem : ProblemValue) (p : PricedPlan) (i : ℕ) (text : List ℕ)
    → IsWagonText Json numbers names near net problem p i text → AreObjects text
