-- Rows of wagons and of orders, by number and by name.
use Rattle.std.specs.Prelude.{ℕ, Bool, true, nat_eq, if◌then◌else◌, List, [], ◌∷◌, ◌++◌, map, Option}
use Rattle.std.specs.Cmp.Lexicographic.{pointwise}
use Rattle.std.specs.List.{find, sum_by}
use Rattle.wagons_and_orders.specs.declared.wagon_row.WagonRow.{WagonRow}
use Rattle.wagons_and_orders.specs.Lack.{is_open}
use Rattle.wagons_and_orders.specs.Numbers.{with_number, without_number}
use Rattle.wagons_and_orders.specs.OrderRow.{OrderRowValue}

-- whether a row is that of this wagon; of this order
abbrev pub is_wagon : List ℕ → WagonRow → Bool
is_wagon number row = pointwise nat_eq number row.number

abbrev pub is_order : List ℕ → OrderRowValue → Bool
is_order id row = pointwise nat_eq id row.text.id

-- the row of a wagon; of an order
abbrev pub wagon_in : List WagonRow → List ℕ → Option WagonRow
wagon_in rows number = find (is_wagon number) rows

abbrev pub order_in : List OrderRowValue → List ℕ → Option OrderRowValue
order_in rows id = find (is_order id) rows

-- a wagon with another promise
abbrev pub with_promise : Option (List ℕ) → WagonRow → WagonRow
with_promise promise row = record row { promise = promise }

-- the rows with a change at one wagon; at one order
abbrev pub at_wagon : List ℕ → (WagonRow → WagonRow) → List WagonRow → List WagonRow
at_wagon number change rows = map (λ row. if is_wagon number row then change row else row) rows

abbrev pub at_order : List ℕ → (OrderRowValue → OrderRowValue) → List OrderRowValue → List OrderRowValue
at_order id change rows = map (λ row. if is_order id row then change row else row) rows

-- how many wagons an order wants while it is open
abbrev pub wanted_open : OrderRowValue → ℕ
wanted_open row = if is_open row then row.text.wagons else 0

-- the most wagons that the open orders of an office may want in all
abbrev pub max_open_wagons : ℕ
max_open_wagons = 500

-- how many wagons the open orders want in all
abbrev pub open_wagons : List OrderRowValue → ℕ
open_wagons rows = sum_by wanted_open rows

-- an order that is promised one more wagon
abbrev pub promised_to : List ℕ → OrderRowValue → OrderRowValue
promised_to number row = record row { promised = with_number number row.promised }

-- an order that a wagon promised to it fills
abbrev pub filled_by : List ℕ → OrderRowValue → OrderRowValue
filled_by number row = record row { promised = without_number number row.promised; filled = row.filled ++ number ∷ [] }

-- an order that loses the promise of a wagon
abbrev pub freed_of : List ℕ → OrderRowValue → OrderRowValue
freed_of number row = record row { promised = without_number number row.promised }

-- an order taken back, with all its promises
abbrev pub taken_back : OrderRowValue → OrderRowValue
taken_back row = record row { promised = []; withdrawn = true }

-- the names of orders
abbrev pub names_of : List OrderRowValue → List (List ℕ)
names_of rows = map (λ row. row.text.id) rows
