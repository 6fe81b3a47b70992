-- A trace as rows: titles, and a row for each step.
use Rattle.std.specs.Prelude.{◌≡◌, ℕ, List}
use Rattle.place_names.specs.declared.named_place.NamedPlace.{NamedPlace}
use Rattle.text_tables.specs.Form.{rows_text}
use Rattle.text_tables.specs.Row.{Row}
use Rattle.text_tables.specs.RowsBelow.{AreBelow}
use Rattle.text_tables.specs.declared.clock.Clock.{Clock}
use Rattle.text_tables.specs.declared.form.Form.{Form}
use Rattle.traces.specs.OrderSteps.{IsRowOfOrderStep, sides_in as order_sides, titles_in as order_titles}
use Rattle.traces.specs.Traces.{TraceValue}
use Rattle.traces.specs.WagonSteps.{IsRowOfWagonStep, sides_in as wagon_sides, titles_in as wagon_titles}
use Rattle.traces.specs.declared.asked.Asked.{Asked}
use Rattle.traces.specs.declared.asked.Asked.TheVariants.{Wagon, Order}
use Rattle.traces.specs.declared.step.Step.{Step}

-- the steps of a wagon
pub record IsWagonText (places : List NamedPlace) (clock : Clock) (form : Form) (steps : List Step) (text : List ℕ) : Type 0 where
  pub rows : List Row
  pub below : AreBelow (IsRowOfWagonStep form places clock) (wagon_titles form) steps rows
  pub whole : text ≡ rows_text form (wagon_sides form) rows

-- the steps of an order
pub record IsOrderText (clock : Clock) (form : Form) (steps : List Step) (text : List ℕ) : Type 0 where
  pub rows : List Row
  pub below : AreBelow (IsRowOfOrderStep form clock) (order_titles form) steps rows
  pub whole : text ≡ rows_text form (order_sides form) rows

-- the steps of what is asked for
abbrev pub IsTextOf : List NamedPlace → Clock → Form → Asked → List Step → (text : List ℕ) → Type 0
IsTextOf places clock form (Wagon number) steps text = IsWagonText places clock form steps text
IsTextOf places clock form (Order id) steps text = IsOrderText clock form steps text

abbrev pub IsTraceText : List NamedPlace → Clock → Form → TraceValue → (text : List ℕ) → Type 0
IsTraceText places clock form trace text = IsTextOf places clock form trace.asked trace.steps text
