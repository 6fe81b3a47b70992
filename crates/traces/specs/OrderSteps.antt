-- The steps of an order as rows.
use Rattle.std.specs.Prelude.{◌≡◌, ℕ, List, [], ◌∷◌, ◌++◌, Option, Some, None, codes, decimal, replicate}
use Rattle.dispatch_sheet.specs.Sheet.{state_word}
use Rattle.fleet_tables.specs.OrderRows.{words_cell}
use Rattle.text_tables.specs.Row.{Row}
use Rattle.text_tables.specs.declared.aligned.Side.{Side}
use Rattle.text_tables.specs.declared.aligned.Side.TheVariants.{Left, Right}
use Rattle.text_tables.specs.declared.clock.Clock.{Clock}
use Rattle.text_tables.specs.declared.form.Form.{Form}
use Rattle.text_tables.specs.declared.form.Form.TheVariants.{Csv, Json, Table}
use Rattle.traces.specs.Cells.{IsMomentCell, code_cell, event_cells, front_cells}
use Rattle.traces.specs.Events.{moment_of, wagon_of}
use Rattle.traces.specs.declared.step.Step.{Step}
use Rattle.wagons_and_orders.specs.Lack.{lack_of}
use Rattle.wagons_and_orders.specs.OrderRow.{OrderRowValue}
use Rattle.wagons_and_orders.specs.States.{state_of}

-- ---- titles

-- for people
abbrev pub order_titles : Row
order_titles =
    codes "line" ∷ codes "entry" ∷ codes "refused" ∷ codes "event" ∷ codes "wagon" ∷ codes "company" ∷ codes "moment"
    ∷ codes "version" ∷ codes "state" ∷ codes "missing" ∷ codes "promised" ∷ codes "filled" ∷ []

-- for a program
abbrev pub order_fields : Row
order_fields =
    codes "line" ∷ codes "entry" ∷ codes "refused" ∷ codes "event" ∷ codes "company" ∷ codes "moment" ∷ codes "version"
    ∷ codes "wagon" ∷ codes "was_state" ∷ codes "was_promised" ∷ codes "was_filled" ∷ codes "state" ∷ codes "missing"
    ∷ codes "promised" ∷ codes "filled" ∷ []

abbrev pub titles_in : Form → Row
titles_in Table = order_titles
titles_in Csv = order_fields
titles_in Json = order_fields

-- the line, the entry, the refusal, the version and how many wagons are missing are numbers
abbrev pub sides_in : Form → List Side
sides_in Table = Right ∷ Right ∷ Right ∷ Left ∷ Left ∷ Left ∷ Left ∷ Right ∷ Left ∷ Right ∷ Left ∷ Left ∷ []
sides_in Csv = Right ∷ Right ∷ Right ∷ Left ∷ Left ∷ Left ∷ Right ∷ Left ∷ Left ∷ Left ∷ Left ∷ Left ∷ Right ∷ Left ∷ Left ∷ []
sides_in Json = Right ∷ Right ∷ Right ∷ Left ∷ Left ∷ Left ∷ Right ∷ Left ∷ Left ∷ Left ∷ Left ∷ Left ∷ Right ∷ Left ∷ Left ∷ []

-- ---- cells

-- the wagon of the message
abbrev pub wagon_cells : Step → Row
wagon_cells step = code_cell (wagon_of step.event) ∷ []

-- the order before the step: its state, the wagons promised to it and those that filled it; empty where the office hasn't it
abbrev pub was_cells : Option OrderRowValue → Row
was_cells None = replicate 3 []
was_cells (Some order) = state_word (state_of order) ∷ words_cell order.promised ∷ words_cell order.filled ∷ []

-- the order after the step: the same, and how many wagons it misses
abbrev pub now_cells : Option OrderRowValue → Row
now_cells None = replicate 4 []
now_cells (Some order) =
    state_word (state_of order) ∷ decimal (lack_of order) ∷ words_cell order.promised ∷ words_cell order.filled ∷ []

-- the cells of a step: for people, and for a program
abbrev pub table_cells : Step → (moment : List ℕ) → Row
table_cells step moment = front_cells step ++ wagon_cells step ++ event_cells step moment ++ now_cells step.after.order

abbrev pub field_cells : Step → (moment : List ℕ) → Row
field_cells step moment =
    front_cells step ++ event_cells step moment ++ wagon_cells step ++ was_cells step.before.order ++ now_cells step.after.order

abbrev pub order_step_cells : Form → Step → (moment : List ℕ) → Row
order_step_cells Table step moment = table_cells step moment
order_step_cells Csv step moment = field_cells step moment
order_step_cells Json step moment = field_cells step moment

-- the row of a step in a form, with moments as a clock shows them
pub record IsRowOfOrderStep (form : Form) (clock : Clock) (step : Step) (row : Row) : Type 0 where
  pub moment : List ℕ
  pub moment_shown : IsMomentCell clock (moment_of step.event) moment
  pub cells : row ≡ order_step_cells form step moment
