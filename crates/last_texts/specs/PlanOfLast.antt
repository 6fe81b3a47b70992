-- The plan of a history's last version at a moment, for people.
use Rattle.std.specs.Prelude.{◌≡◌, ℕ, Bool, true, false, List, length, Option, Some, option_copied}
use Rattle.command_line.specs.declared.plan_options.PlanOptions.{PlanOptions}
use Rattle.commit_book.specs.History.{problem_at, version}
use Rattle.commit_book.specs.Setting.{Setting}
use Rattle.line_network.specs.Network.{NetworkValue}
use Rattle.line_network.specs.Networks.{network_at}
use Rattle.move_messages.specs.declared.event.Event.{Event}
use Rattle.place_names.specs.declared.named_place.NamedPlace.{NamedPlace}
use Rattle.plan_bounds.specs.PricedPlan.{IsCertified, PricedPlan}
use Rattle.text_tables.specs.declared.clock.Clock.{Clock}
use Rattle.plan_table.specs.declared.plan_list.PlanList.{PlanList}
use Rattle.plan_table.specs.CsvText.{IsCsvText}
use Rattle.plan_table.specs.ListOf.{IsListOf}
use Rattle.plan_table.specs.TableText.{IsTableText}
use Rattle.problem_table.specs.Allowed.{IsTableOf}
use Rattle.last_texts.specs.ZoneClock.{IsClockFor}

-- The problem of the last version at a moment, over the network in force, has a plan whose prices show that none costs less; and
-- this is its list.
pub record IsPlanOfLast (setting : Setting) (history : List Event) (at : ℕ) (plan : PlanList) : Type 0 where
  pub network : NetworkValue
  pub in_force : network_at setting.networks (version setting history (length history)).network ≡ Some network
  pub priced : PricedPlan
  pub table : IsTableOf network (problem_at setting history (length history) at) priced.table
  pub certified : IsCertified priced
  pub listed : IsListOf (length history) network (problem_at setting history (length history) at) priced plan

-- what is printed of a list: CSV, or a table
abbrev pub IsPrinted : (csv : Bool) → List NamedPlace → Clock → PlanList → (text : List ℕ) → Type 0
IsPrinted true places clock plan text = IsCsvText places clock plan text
IsPrinted false places clock plan text = IsTableText places clock plan text

-- the same by the clock for the time zone that is asked for, whose file has these bytes
pub record IsPrintedIn (csv : Bool) (places : List NamedPlace) (zone : Option (List ℕ)) (bytes : List ℕ) (plan : PlanList) (text : List ℕ) : Type 0 where
  pub clock : Clock
  pub for_zone : IsClockFor zone bytes clock
  pub printed : IsPrinted csv places clock plan text

-- the text of that plan, by the options of `plan`, the names of places and the bytes of the time zone's file
pub record IsPlanTextOfLast (setting : Setting) (history : List Event) (options : PlanOptions) (places : List NamedPlace) (zone text : List ℕ) : Type 0 where
  pub plan : PlanList
  pub of_last : IsPlanOfLast setting history options.problem.at plan
  pub printed : IsPrintedIn options.csv places (option_copied options.zone) zone plan text
