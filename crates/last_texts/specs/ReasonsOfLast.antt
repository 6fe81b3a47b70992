-- The reasons of a plan of a history's last version at a moment: what is asked about it, and the text that answers.
use Rattle.std.specs.Prelude.{◌≡◌, ◌≢◌, ◌⊎◌, ℕ, Bool, true, false, List, length, Option, Some, slice_get}
use Rattle.command_line.specs.declared.why_options.Asked.{Asked}
use Rattle.command_line.specs.declared.why_options.Asked.TheVariants.{Plan, Order, Wagon}
use Rattle.command_line.specs.declared.why_options.WhyOptions.{WhyOptions}
use Rattle.commit_book.specs.BegunProblem.{BegunValue}
use Rattle.commit_book.specs.History.{problem_at, version}
use Rattle.commit_book.specs.Setting.{Setting}
use Rattle.cost_table.specs.Problem.{ProblemValue, order_names, wagon_names}
use Rattle.line_network.specs.Network.{NetworkValue}
use Rattle.line_network.specs.Networks.{network_at}
use Rattle.move_messages.specs.declared.event.Event.{Event}
use Rattle.office_files.specs.declared.stop.Stop.{Stop}
use Rattle.office_files.specs.declared.stop.Stop.TheVariants as stop
use Rattle.place_names.specs.declared.named_place.NamedPlace.{NamedPlace}
use Rattle.plan_bounds.specs.PricedPlan.{IsCertified, PricedPlan}
use Rattle.plan_reasons.specs.PairLists.{IsOrderText, IsWagonText}
use Rattle.plan_reasons.specs.WhyText.{IsWhyText}
use Rattle.plan_reasons.specs.CertifiedPlan.{CertifiedPlanValue}
use Rattle.plan_reasons.specs.declared.numbers.Numbers.{Numbers}
use Rattle.plan_reasons.specs.declared.numbers.Numbers.TheVariants.{Exact, Bounds}
use Rattle.plan_reasons.specs.declared.style.Style.{Style}
use Rattle.plan_reasons.specs.declared.style.Style.TheVariants.{Text, Json}
use Rattle.problem_table.specs.Allowed.{IsTableOf}

-- how the lines are written
abbrev pub style_of : (json : Bool) → Style
style_of true = Json
style_of false = Text

-- which numbers are printed
abbrev pub numbers_of : (quick : Bool) → Numbers
numbers_of true = Bounds
numbers_of false = Exact

-- the text that answers what is asked about a plan of a problem: of the whole, of a waiting order, or of a free wagon, with the
-- names of places where they are asked for, and with so many pairs at most
abbrev pub IsAnswer : Style → Numbers → (names : Option (List NamedPlace)) → (near : Option ℕ) → Asked → (last : ℕ) → NetworkValue → ProblemValue → PricedPlan → (text : List ℕ) → Type 0
IsAnswer style numbers names near Plan last network problem plan text = IsWhyText style numbers last network problem plan text
IsAnswer style numbers names near (Order id) last network problem plan text =
    (j : ℕ) × (slice_get (order_names problem.orders) j ≡ Some id) × IsOrderText style numbers names near network problem plan j text
IsAnswer style numbers names near (Wagon number) last network problem plan text =
    (i : ℕ) × (slice_get (wagon_names problem.wagons) i ≡ Some number) × IsWagonText style numbers names near network problem plan i text

-- why nothing answers what is asked about a problem: no order waits by this name, or no wagon is free by this number
abbrev pub IsLacking : Asked → ProblemValue → (why : Stop) → Type 0
IsLacking Plan problem why = ⊥
IsLacking (Order id) problem why = ((j : ℕ) → slice_get (order_names problem.orders) j ≢ Some id) × (why ≡ stop.OrderNotInProblem id)
IsLacking (Wagon number) problem why = ((i : ℕ) → slice_get (wagon_names problem.wagons) i ≢ Some number) × (why ≡ stop.WagonNotInProblem number)

-- the same of a planned problem, by the options of `why`
abbrev pub IsAnswerFor : WhyOptions → (names : Option (List NamedPlace)) → (last : ℕ) → CertifiedPlanValue → (text : List ℕ) → Type 0
IsAnswerFor options names last planned text =
    IsAnswer (style_of options.json) (numbers_of options.quick) names options.near options.asked last planned.network planned.problem planned.priced text

-- The problem of a version at a moment, over the network in force in that version, has a plan whose prices show that none costs
-- less; and the text answers what is asked about that plan.
pub record AreReasonsOf (setting : Setting) (history : List Event) (last at : ℕ) (options : WhyOptions) (names : Option (List NamedPlace)) (text : List ℕ) : Type 0 where
  pub network : NetworkValue
  pub in_force : network_at setting.networks (version setting history last).network ≡ Some network
  pub plan : PricedPlan
  pub table : IsTableOf network (problem_at setting history last at) plan.table
  pub certified : IsCertified plan
  pub answers : IsAnswer (style_of options.json) (numbers_of options.quick) names options.near options.asked last network (problem_at setting history last at) plan text

-- why there are none: the problem of the version lacks what is asked about, or memory was refused
abbrev pub AreNoReasonsOf : Setting → List Event → (last at : ℕ) → WhyOptions → (why : Stop) → Type 0
AreNoReasonsOf setting history last at options why = IsLacking options.asked (problem_at setting history last at) why ⊎ (why ≡ stop.OutOfMemory)

-- the same of the last version
abbrev pub AreReasonsOfLast : Setting → List Event → (at : ℕ) → WhyOptions → (names : Option (List NamedPlace)) → (text : List ℕ) → Type 0
AreReasonsOfLast setting history at options names text = AreReasonsOf setting history (length history) at options names text

abbrev pub AreNoReasonsOfLast : Setting → List Event → (at : ℕ) → WhyOptions → (why : Stop) → Type 0
AreNoReasonsOfLast setting history at options why = AreNoReasonsOf setting history (length history) at options why

-- ---- the plan of a line

-- A problem with its table, over the network in force in its version, has a plan whose prices show that none costs less; and the text
-- answers what is asked about that plan.
pub record AreReasonsOfPlan (begun : BegunValue) (options : WhyOptions) (names : Option (List NamedPlace)) (text : List ℕ) : Type 0 where
  pub network : NetworkValue
  pub in_force : network_at begun.networks begun.snap.network ≡ Some network
  pub plan : PricedPlan
  pub table : IsTableOf network begun.snap.problem plan.table
  pub certified : IsCertified plan
  pub answers : IsAnswer (style_of options.json) (numbers_of options.quick) names options.near options.asked begun.snap.version network begun.snap.problem plan text

-- why there are none
abbrev pub AreNoReasonsOfPlan : BegunValue → WhyOptions → (why : Stop) → Type 0
AreNoReasonsOfPlan begun options why = IsLacking options.asked begun.snap.problem why ⊎ (why ≡ stop.OutOfMemory)
