-- The text of a plan for people: of which version it is and at which moment; a table of the wagons that go; a table of the
-- orders that miss wagons, if any does; the sum of all kilometres and penalties, and how much of it is which.
use Rattle.std.specs.Prelude.{◌≡◌, ◌-◌, ℕ, List, [], ◌∷◌, ◌++◌, map, codes, decimal}
use Rattle.std.specs.List.{AllZip, sum_by}
use Rattle.place_names.specs.declared.named_place.NamedPlace.{NamedPlace}
use Rattle.text_tables.specs.declared.aligned.Side.{Side}
use Rattle.text_tables.specs.declared.aligned.Side.TheVariants.{Left, Right}
use Rattle.text_tables.specs.declared.clock.Clock.{Clock}
use Rattle.plan_reasons.specs.declared.journey.Journey.{Journey}
use Rattle.plan_table.specs.declared.plan_list.PlanList.{PlanList}
use Rattle.plan_table.specs.declared.plan_list.Shortfall.{Shortfall}
use Rattle.text_tables.specs.Aligned.{aligned_text}
use Rattle.plan_table.specs.Cells.{IsJourneyRow, journey_titles, shortfall_row, shortfall_titles}
use Rattle.text_tables.specs.Row.{Row}
use Rattle.text_tables.specs.Clock.{IsShown}

-- numbers stand at the right
abbrev pub journey_sides : List Side
journey_sides = Left ∷ Left ∷ Left ∷ Left ∷ Right ∷ Right ∷ Left ∷ Left ∷ []

abbrev pub shortfall_sides : List Side
shortfall_sides = Left ∷ Right ∷ Right ∷ Left ∷ []

abbrev pub version_words : (version : ℕ) → List ℕ
version_words version = codes "plan of version " ++ decimal version

abbrev pub moment_words : (at : List ℕ) → List ℕ
moment_words at = codes " at " ++ at ++ codes "\n\n"

-- the first line, and an empty one
abbrev pub head_line : (version : ℕ) → (at : List ℕ) → List ℕ
head_line version at = version_words version ++ moment_words at

abbrev pub journeys_text : List Row → List ℕ
journeys_text rows = aligned_text journey_sides (journey_titles ∷ rows)

-- nothing where no order misses a wagon
abbrev pub shortfalls_text : List Shortfall → List ℕ
shortfalls_text [] = []
shortfalls_text (first ∷ others) = 10 ∷ aligned_text shortfall_sides (shortfall_titles ∷ map shortfall_row (first ∷ others))

-- the kilometres of all wagons that go
abbrev pub kilometres_of : List Journey → ℕ
kilometres_of journeys = sum_by (λ journey. journey.km) journeys

-- words, and a number behind them
unfoldable pub numbered : (words : List ℕ) → (number : ℕ) → List ℕ
numbered words number = words ++ decimal number

abbrev pub sum_parts : (driven penalties : ℕ) → List ℕ
sum_parts driven penalties =
    numbered (codes " km: ") driven ++ numbered (codes " km to drive, ") penalties ++ codes " km of penalties\n"

-- the sum; how much of it is driven; the others are penalties
abbrev pub sum_line : (sum driven : ℕ) → List ℕ
sum_line sum driven = numbered (codes "\nsum ") sum ++ sum_parts driven (sum - driven)

pub record IsTableText (places : List NamedPlace) (clock : Clock) (plan : PlanList) (text : List ℕ) : Type 0 where
  pub at : List ℕ
  pub at_shown : IsShown clock plan.at at
  pub rows : List Row
  pub each : AllZip (IsJourneyRow places clock) plan.journeys.items rows
  pub whole : text ≡ head_line plan.version at ++ journeys_text rows ++ shortfalls_text plan.shortfalls.items ++ sum_line plan.sum (kilometres_of plan.journeys.items)
