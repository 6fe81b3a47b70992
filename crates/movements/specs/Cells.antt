-- Cells that tables and CSV share.
use Rattle.std.specs.Prelude.{◌≡◌, ℕ, List, [], ◌∷◌, Option, Some, None, Result, Ok, Err, decimal}
use Rattle.rail_codes.specs.Moment.{moment_of_seconds}
use Rattle.rail_codes.specs.declared.code_fault.CodeFault.{CodeFault}
use Rattle.text_tables.specs.Clock.{IsShown}
use Rattle.text_tables.specs.Row.{Row}
use Rattle.text_tables.specs.declared.clock.Clock.{Clock}
use Rattle.movements.specs.declared.movement.Way.{Way}
use Rattle.movements.specs.declared.need.OrderNeed.{OrderNeed}

-- the kilometres and the minutes of a way; nothing where there is none
abbrev pub km_cell : Option Way → List ℕ
km_cell None = []
km_cell (Some way) = decimal way.km

abbrev pub minutes_cell : Option Way → List ℕ
minutes_cell None = []
minutes_cell (Some way) = decimal way.minutes

-- a moment, if there is one: how the clock shows it
abbrev pub IsMomentCell : Clock → Result ℕ CodeFault → (cell : List ℕ) → Type 0
IsMomentCell clock (Ok moment) cell = IsShown clock moment cell
IsMomentCell clock (Err fault) cell = cell ≡ []

abbrev pub IsSecondsCell : Clock → (seconds : ℕ) → (cell : List ℕ) → Type 0
IsSecondsCell clock seconds cell = IsMomentCell clock (moment_of_seconds seconds) cell

-- the arrival by a way, as the clock shows it; nothing where there is no way, or the arrival lies past 2099
abbrev pub IsArrival : Clock → Option Way → (cell : List ℕ) → Type 0
IsArrival clock None cell = cell ≡ []
IsArrival clock (Some way) cell = IsSecondsCell clock way.arrival cell

-- how many wagons an order wants, how many were delivered, are promised and are missing, the penalty of each, and its state
abbrev pub need_cells : OrderNeed → (state : List ℕ) → Row
need_cells need state =
    decimal need.wanted ∷ decimal need.filled ∷ decimal need.promised ∷ decimal need.missing ∷ decimal need.penalty ∷ state ∷ []
