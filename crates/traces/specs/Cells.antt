-- Cells that the traces of wagons and of orders share.
use Rattle.std.specs.Prelude.{◌≡◌, ℕ, List, [], ◌∷◌, ◌++◌, Option, Some, None, decimal}
use Rattle.text_tables.specs.Clock.{IsShown}
use Rattle.text_tables.specs.Row.{Row}
use Rattle.text_tables.specs.declared.clock.Clock.{Clock}
use Rattle.traces.specs.Events.{company_of, event_word, version_of}
use Rattle.traces.specs.declared.step.Step.{Step}
use Rattle.traces.specs.declared.step.StepAnswer.{StepAnswer}
use Rattle.traces.specs.declared.step.StepAnswer.TheVariants.{Accepted, Refused}

-- a moment, if there is one, as a clock shows it
abbrev pub IsMomentCell : Clock → Option ℕ → (cell : List ℕ) → Type 0
IsMomentCell clock None cell = cell ≡ []
IsMomentCell clock (Some moment) cell = IsShown clock moment cell

-- a number, if there is one
abbrev pub number_cell : Option ℕ → List ℕ
number_cell None = []
number_cell (Some number) = decimal number

-- a code, if there is one
abbrev pub code_cell : Option (List ℕ) → List ℕ
code_cell None = []
code_cell (Some code) = code

-- the number of the entry, and that of the refusal: one of the two
abbrev pub answer_cells : StepAnswer → Row
answer_cells (Accepted entry) = decimal entry ∷ [] ∷ []
answer_cells (Refused number) = [] ∷ decimal number ∷ []

-- the line, the answer, and the word of the event
abbrev pub front_cells : Step → Row
front_cells step = decimal step.line ∷ answer_cells step.answer ++ event_word step.event ∷ []

-- the company, the moment and the version that the event names
abbrev pub event_cells : Step → (moment : List ℕ) → Row
event_cells step moment = code_cell (company_of step.event) ∷ moment ∷ number_cell (version_of step.event) ∷ []
