-- Rows that a map gives by the numbers of their wagons.
use Rattle.std.specs.Prelude.{◌≡◌, ℕ, List, IfSome}
use Rattle.std.specs.Option.{option_or}
use Rattle.wagons_and_orders.specs.declared.wagon_row.WagonRow.{WagonRow}
use Rattle.fleet_rows.specs.Rows.{wagon_in}
use Rattle.operating_db.specs.FleetChange.{RowOf}

-- each row is that of the wagon by whose number it is given
abbrev pub AreOwnRows : RowOf → Type 0
AreOwnRows row_of = (number : List ℕ) → IfSome (row_of number) (λ row. row.number ≡ number)

-- these rows are given now, and of every other wagon the row that was given before
abbrev pub ArePut : (rows : List WagonRow) → (old new : RowOf) → Type 0
ArePut rows old new = (number : List ℕ) → new number ≡ option_or (wagon_in rows number) (old number)
