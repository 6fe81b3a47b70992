-- What a line is read as: a table, a plan and its prices, or the first fault.
use Rattle.std.specs.Prelude.{ℕ, ◌^◌, ◌-◌, ◌≤◌, All, IfSome, List, [], map, if◌then◌else◌, Option, Some, None, option_map, is_some, Result, Ok}
use Rattle.serde_json.specs.Data.{Data}
use Rattle.serde_json.specs.Find.{as_null}
use Rattle.line_fields.specs.declared.field.Field.{Field}
use Rattle.line_fields.specs.declared.field.Field.TheVariants.{Wagons, Orders, Cells, Penalties, Lacks, Pairs, WagonPrices, OrderPrices}
use Rattle.line_fields.specs.declared.fault.FieldFault.{FieldFault}
use Rattle.line_fields.specs.declared.fault.LineFault.{LineFault}
use Rattle.line_fields.specs.Values.{◌>>=◌, number_within, wagon_number_from, order_id_from, list_of_each, wagon_and_order}
use Rattle.line_fields.specs.Fields.{list_at, optional_list_at}
use Rattle.line_fields.specs.Line.{object_of}
use Rattle.move_messages.specs.OrderLimits.{max_order_wagons}
use Rattle.wagons_and_orders.specs.WantedLimits.{IsLack}
use Rattle.cost_table.specs.TableLimits.{IsNumber, max_cost}
use Rattle.table_lines.specs.declared.table_line.TableLine.{TableLine}

-- a table line, as a contract sees it: wagon numbers and the names of orders are texts
pub record TableText : Type 0 where
  pub wagons : List (List ℕ)
  pub orders : List (List ℕ)
  pub cells : List (List (Option ℕ))
  pub penalties : List ℕ
  pub lacks : Option (List ℕ)
  pub pairs : List (List ℕ × List ℕ)
  pub u : List ℕ
  pub v : List ℕ

-- what a contract sees of the value that was read
abbrev pub table_text : TableLine → TableText
table_text line =
    record { wagons = line.wagons.items; orders = line.orders.items; cells = map (λ row. row.items) line.cells.items; penalties = line.penalties.items; lacks = option_map (λ list. list.items) line.lacks; pairs = line.pairs.items; u = line.u.items; v = line.v.items }

-- its costs and penalties are within a table's limits, and so is what each order lacks
pub record IsWithinLimits (line : TableLine) : Type 0 where
  pub costs : All (λ row. All IsNumber row.items) line.cells.items
  pub penalties : All (λ penalty. penalty ≤ max_cost) line.penalties.items
  pub lacks : IfSome line.lacks (λ lacks. All IsLack lacks.items)

-- ---- fields

-- the cost of a cell in km, null where the pair is not allowed
unfoldable pub cell_of : Data → Result (Option ℕ) FieldFault
cell_of d = if is_some (as_null d) then Ok None else number_within 0 max_cost d >>= λ cost. Ok (Some cost)

-- the costs of one wagon
abbrev pub row_of : Data → Result (List (Option ℕ)) FieldFault
row_of d = list_of_each cell_of d

-- the rows of costs, one for each wagon
abbrev pub cells_of : Data → Result (List (List (Option ℕ))) LineFault
cells_of d = list_at row_of Cells d

-- how many wagons each order lacks: one at least, and no more than an order wants
abbrev pub lacks_field : Data → Result (Option (List ℕ)) LineFault
lacks_field d = optional_list_at (number_within 1 max_order_wagons) Lacks d

-- the dual prices of the wagons, or those of the orders, in km
abbrev pub prices_of : Field → Data → Result (List ℕ) LineFault
prices_of field d = list_at (number_within 0 (2 ^ 64 - 1)) field d

-- ---- the whole line

-- the same table with this plan and these prices
abbrev pub with_plan : TableText → List (List ℕ × List ℕ) → (u v : List ℕ) → TableText
with_plan t pairs u v =
    record { wagons = t.wagons; orders = t.orders; cells = t.cells; penalties = t.penalties; lacks = t.lacks; pairs = pairs; u = u; v = v }

-- the table of an object, without a plan: its fields, in the order in which they are tried
unfoldable pub table_of : Data → Result TableText LineFault
table_of d = do
  wagons ← list_at wagon_number_from Wagons d
  orders ← list_at order_id_from Orders d
  cells ← cells_of d
  penalties ← list_at (number_within 0 max_cost) Penalties d
  lacks ← lacks_field d
  Ok (record { wagons = wagons; orders = orders; cells = cells; penalties = penalties; lacks = lacks; pairs = []; u = []; v = [] })

-- a table with the plan and the prices that an object gives
unfoldable pub with_plan_of : Data → TableText → Result TableText LineFault
with_plan_of d t = do
  pairs ← list_at wagon_and_order Pairs d
  u ← prices_of WagonPrices d
  v ← prices_of OrderPrices d
  Ok (with_plan t pairs u v)

-- the fields of an object, in the order in which they are tried: the table's, then the plan's
unfoldable pub table_text_of : Data → Result TableText LineFault
table_text_of d = table_of d >>= with_plan_of d

-- the table that a line is, or its first fault
unfoldable pub table_line_of : List ℕ → Result TableText LineFault
table_line_of bytes = object_of bytes >>= table_text_of
