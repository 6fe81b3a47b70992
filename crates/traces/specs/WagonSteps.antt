-- The steps of a wagon as rows.
use Rattle.std.specs.Prelude.{◌≡◌, ℕ, List, [], ◌∷◌, ◌++◌, Option, Some, None, codes, replicate}
use Rattle.fleet_tables.specs.WagonRows.{held_cell, promise_cell}
use Rattle.place_names.specs.declared.named_place.NamedPlace.{NamedPlace}
use Rattle.text_tables.specs.PlaceCells.{place_in}
use Rattle.text_tables.specs.Row.{Row}
use Rattle.text_tables.specs.declared.aligned.Side.{Side}
use Rattle.text_tables.specs.declared.aligned.Side.TheVariants.{Left, Right}
use Rattle.text_tables.specs.declared.clock.Clock.{Clock}
use Rattle.text_tables.specs.declared.form.Form.{Form}
use Rattle.text_tables.specs.declared.form.Form.TheVariants.{Csv, Json, Table}
use Rattle.traces.specs.Cells.{IsMomentCell, event_cells, front_cells}
use Rattle.traces.specs.Events.{moment_of}
use Rattle.traces.specs.declared.step.Step.{Step}
use Rattle.wagons_and_orders.specs.StatusTable.{place_of}
use Rattle.wagons_and_orders.specs.StatusWords.{ready_moment, status_word}
use Rattle.wagons_and_orders.specs.declared.wagon_row.WagonRow.{WagonRow}

-- ---- titles

-- for people
abbrev pub wagon_titles : Row
wagon_titles =
    codes "line" ∷ codes "entry" ∷ codes "refused" ∷ codes "event" ∷ codes "company" ∷ codes "moment" ∷ codes "version"
    ∷ codes "was" ∷ codes "from" ∷ codes "status" ∷ codes "place" ∷ codes "held" ∷ codes "order" ∷ []

-- for a program
abbrev pub wagon_fields : Row
wagon_fields =
    codes "line" ∷ codes "entry" ∷ codes "refused" ∷ codes "event" ∷ codes "company" ∷ codes "moment" ∷ codes "version"
    ∷ codes "was_status" ∷ codes "was_place" ∷ codes "was_place_name" ∷ codes "was_held" ∷ codes "was_order"
    ∷ codes "status" ∷ codes "place" ∷ codes "place_name" ∷ codes "ready" ∷ codes "held" ∷ codes "order" ∷ []

abbrev pub titles_in : Form → Row
titles_in Table = wagon_titles
titles_in Csv = wagon_fields
titles_in Json = wagon_fields

-- the line, the entry, the refusal and the version are numbers
abbrev pub sides_in : Form → List Side
sides_in Table = Right ∷ Right ∷ Right ∷ Left ∷ Left ∷ Left ∷ Right ∷ Left ∷ Left ∷ Left ∷ Left ∷ Left ∷ Left ∷ []
sides_in Csv = Right ∷ Right ∷ Right ∷ Left ∷ Left ∷ Left ∷ Right ∷ Left ∷ Left ∷ Left ∷ Left ∷ Left ∷ Left ∷ Left ∷ Left ∷ Left ∷ Left ∷ Left ∷ []
sides_in Json = Right ∷ Right ∷ Right ∷ Left ∷ Left ∷ Left ∷ Right ∷ Left ∷ Left ∷ Left ∷ Left ∷ Left ∷ Left ∷ Left ∷ Left ∷ Left ∷ Left ∷ Left ∷ []

-- ---- cells

-- since when the wagon is ready, where there is one and it is empty
abbrev pub ready_of : Option WagonRow → Option ℕ
ready_of None = None
ready_of (Some wagon) = ready_moment wagon.status

-- for a program: whether the wagon is held, and the order that it is promised to
abbrev pub promise_cells : WagonRow → Row
promise_cells wagon = held_cell wagon.held ∷ promise_cell wagon.promise ∷ []

-- the wagon before the step: its status and its place; for a program, its hold and its promise too
abbrev pub was_back : Form → WagonRow → Row
was_back Table wagon = []
was_back Csv wagon = promise_cells wagon
was_back Json wagon = promise_cells wagon

abbrev pub was_of : Form → List NamedPlace → WagonRow → Row
was_of form places wagon = status_word wagon.status ∷ place_in form places (place_of wagon.status) ++ was_back form wagon

-- how many cells there are
abbrev pub was_width : Form → ℕ
was_width Table = 2
was_width Csv = 5
was_width Json = 5

-- the same, empty where the office hasn't the wagon
abbrev pub was_cells : Form → List NamedPlace → Option WagonRow → Row
was_cells form places None = replicate (was_width form) []
was_cells form places (Some wagon) = was_of form places wagon

-- the wagon after the step: its status, its place, its hold and its promise; for a program, since when it is ready too
abbrev pub ready_cells : Form → (ready : List ℕ) → Row
ready_cells Table ready = []
ready_cells Csv ready = ready ∷ []
ready_cells Json ready = ready ∷ []

abbrev pub now_of : Form → List NamedPlace → WagonRow → (ready : List ℕ) → Row
now_of form places wagon ready =
    status_word wagon.status ∷ place_in form places (place_of wagon.status) ++ ready_cells form ready ++ promise_cells wagon

abbrev pub now_width : Form → ℕ
now_width Table = 4
now_width Csv = 6
now_width Json = 6

abbrev pub now_cells : Form → List NamedPlace → Option WagonRow → (ready : List ℕ) → Row
now_cells form places None ready = replicate (now_width form) []
now_cells form places (Some wagon) ready = now_of form places wagon ready

-- the cells of a step
abbrev pub wagon_step_cells : Form → List NamedPlace → Step → (moment ready : List ℕ) → Row
wagon_step_cells form places step moment ready =
    front_cells step ++ event_cells step moment ++ was_cells form places step.before.wagon ++ now_cells form places step.after.wagon ready

-- the row of a step in a form, with moments as a clock shows them
pub record IsRowOfWagonStep (form : Form) (places : List NamedPlace) (clock : Clock) (step : Step) (row : Row) : Type 0 where
  pub moment : List ℕ
  pub moment_shown : IsMomentCell clock (moment_of step.event) moment
  pub ready : List ℕ
  pub ready_shown : IsMomentCell clock (ready_of step.after.wagon) ready
  pub cells : row ≡ wagon_step_cells form places step moment ready
