-- The sheet of an office: lines for its version, for each wagon, for each order and, among several, for its network.
-- Each line ends with a line feed, and its words are parted by one space.
use Rattle.std.specs.Prelude.{◌≡◌, ℕ, Bool, true, false, List, [], ◌∷◌, ◌++◌, map, Option, Some, None, nat_lt, if◌then◌else◌, codes, decimal}
use Rattle.std.specs.List.{join_with_byte}
use Rattle.rail_codes.specs.Moment.{IsMomentText}
use Rattle.wagons_and_orders.specs.declared.wagon_row.WagonRow.{WagonRow}
use Rattle.wagons_and_orders.specs.StatusTable.{place_of}
use Rattle.wagons_and_orders.specs.StatusWords.{status_word}
use Rattle.wagons_and_orders.specs.declared.order_state.OrderState.{OrderState}
use Rattle.wagons_and_orders.specs.declared.order_state.OrderState.TheVariants.{Waiting, Promised, Filled, Withdrawn}
use Rattle.wagons_and_orders.specs.States.{state_of}
use Rattle.wagons_and_orders.specs.OrderRow.{OrderRowValue}
use Rattle.operating_db.specs.State.{StateValue}
use Rattle.reply_texts.specs.Lines.{AreLines}
use Rattle.reply_texts.specs.Words.{next_word}

-- ---- wagons

-- whether a wagon is held
abbrev pub hold_word : Bool → List ℕ
hold_word true = codes "held"
hold_word false = codes "-"

-- the order that a wagon is promised to
abbrev pub promise_word : Option (List ℕ) → List ℕ
promise_word None = codes "-"
promise_word (Some order) = order

-- a wagon: number, class, load limit in kg, status and place, last moment, hold and promise
abbrev pub wagon_text : WagonRow → (last : List ℕ) → List ℕ
wagon_text row last =
    codes "wagon" ++ next_word row.number ++ next_word row.class ++ next_word (decimal row.load_limit)
    ++ next_word (status_word row.status) ++ next_word (place_of row.status) ++ next_word last
    ++ next_word (hold_word row.held) ++ next_word (promise_word row.promise) ++ 10 ∷ []

-- the line of a wagon, where `last` is the text of its last moment
pub record IsWagonLine (row : WagonRow) (line : List ℕ) : Type 0 where
  pub last : List ℕ
  pub moment : IsMomentText row.last last
  pub text : line ≡ wagon_text row last

-- ---- orders

-- the state of an order
abbrev pub state_word : OrderState → List ℕ
state_word Waiting = codes "waiting"
state_word Promised = codes "promised"
state_word Filled = codes "filled"
state_word Withdrawn = codes "withdrawn"

-- the promised wagons, then those that filled the order, each of these marked
abbrev pub listed_wagons : OrderRowValue → List (List ℕ)
listed_wagons row = row.promised ++ map (λ number. number ++ codes "*") row.filled

-- the wagons of a list, parted by commas
abbrev pub list_word : List (List ℕ) → List ℕ
list_word [] = codes "-"
list_word (wagon ∷ wagons) = join_with_byte 44 (wagon ∷ wagons)

-- an order: name, place, latest moment, penalty in km, state, how many wagons it wants, and the list of its wagons
abbrev pub order_text : OrderRowValue → (latest : List ℕ) → List ℕ
order_text row latest =
    codes "order" ++ next_word row.text.id ++ next_word row.text.place ++ next_word latest ++ next_word (decimal row.text.penalty)
    ++ next_word (state_word (state_of row)) ++ next_word (decimal row.text.wagons)
    ++ next_word (list_word (listed_wagons row)) ++ 10 ∷ []

-- the line of an order, where `latest` is the text of its latest moment
pub record IsOrderLine (row : OrderRowValue) (line : List ℕ) : Type 0 where
  pub latest : List ℕ
  pub moment : IsMomentText row.text.latest latest
  pub text : line ≡ order_text row latest

-- ---- the sheet

-- the version that the sheet is of
abbrev pub version_line : ℕ → List ℕ
version_line version = codes "sheet" ++ next_word (decimal version) ++ 10 ∷ []

-- the network in force, where there is more than one
abbrev pub network_line : StateValue → List ℕ
network_line state = if nat_lt 1 state.networks then codes "network" ++ next_word (decimal state.office.network) ++ 10 ∷ [] else []

-- the version, the wagons ascending by number, the orders as placed, and the network
pub record IsSheetText (version : ℕ) (state : StateValue) (text : List ℕ) : Type 0 where
  pub wagons : List ℕ
  pub orders : List ℕ
  pub wagon_lines : AreLines IsWagonLine state.office.wagons wagons
  pub order_lines : AreLines IsOrderLine state.office.orders orders
  pub whole : text ≡ version_line version ++ wagons ++ orders ++ network_line state
